-- What a request says, in document 01's words and numbers. The theorems on writing (Accepts.antt, RoundTrip.antt) use these words and none of Setup.antt's, so that they can be believed without
-- believing how the fields are made.
use Rattle.std.specs.Prelude.{ℕ, ◌≤◌, ◌<◌, ◌≡◌, [], ◌⊎◌}
use Rattle.box_number.specs.Table.{◌=?◌, otherwise, ◌⇒◌∣◌, table}
use Rattle.write_rules.specs.Request.{Request, precision, sign_of, alpha_of}

-- the corners are numbers of 32 bits, as they are in every call
pub record Corners (r : Request) : Type 0 where
  pub left : r.x0 < 4294967296
  pub top : r.y0 < 4294967296
  pub right : r.x1 < 4294967296
  pub bottom : r.y1 < 4294967296

-- all components have as many bits as the first
abbrev pub SameBits : Request → Type 0
SameBits r = (c : ℕ) → c < r.count → precision r.components c ≡ precision r.components 0

-- component c has more bits than the first, or fewer
abbrev pub OtherBits : Request → ℕ → Type 0
OtherBits r c = (c < r.count) × (precision r.components c ≡ precision r.components 0 → ⊥)

-- the file tells the sign of component c: it is the sign of the first, or some component has other bits, and then there is a byte for each (difference 23)
abbrev pub SignTold : Request → ℕ → Type 0
SignTold r c = (sign_of r.components c ≡ sign_of r.components 0) ⊎ ((d : ℕ) × OtherBits r d)

-- "Colour space 1, 2, 3 gives enumcs 16, 17, 18, any other 0"
unfoldable pub enumcs_of : ℕ → ℕ
enumcs_of space = table (space =? 1 ⇒ 16 ∣ space =? 2 ⇒ 17 ∣ space =? 3 ⇒ 18 ∣ otherwise 0)

-- the count of colours: sRGB has 3, grey 1, sYCC 3; of another colour space it is not known
unfoldable pub colour_count : ℕ → ℕ
colour_count space = table (space =? 1 ⇒ 3 ∣ space =? 2 ⇒ 1 ∣ space =? 3 ⇒ 3 ∣ otherwise 0)

-- component o is the opacity of the picture: there is no profile, the colours are known, o comes after them, and o is marked and no other component is
pub record Opacity (r : Request) (o : ℕ) : Type 0 where
  pub enumerated : r.profile ≡ []
  pub known : 1 ≤ colour_count r.space
  pub behind : colour_count r.space ≤ o
  pub there : o < r.count
  pub marked : alpha_of r.components o ≡ 0 → ⊥
  pub alone : (c : ℕ) → c < r.count → (alpha_of r.components c ≡ 0 → ⊥) → c ≡ o
