-- Document 01's table on writing in the request's own numbers: every request within its bounds is written, and any other is refused by the first bound that it breaks.
use Rattle.std.specs.Prelude.{ℕ, ◌+◌, ◌*◌, ◌≤◌, ◌<◌, ◌≡◌, List, [], length}
use Rattle.write_rules.specs.Request.{Request, precision, sign_of}
use Rattle.write_rules.specs.Words.{Corners, SameBits, OtherBits, Opacity}
use Rattle.write_rules.specs.Writing.{Writing, written, declined, write}

-- 31: 1 to 16384 components
abbrev pub Counted : Request → Type 0
Counted r = (1 ≤ r.count) × (r.count ≤ 16384)

-- 29: 13 numbers for each
abbrev pub Listed : Request → Type 0
Listed r = 13 * r.count ≤ length r.components

-- 32: of component c, 1 to 38 bits, and a sign of 0 or 1
abbrev pub Sound : Request → ℕ → Type 0
Sound r c = (1 ≤ precision r.components c) × (precision r.components c ≤ 38) × (sign_of r.components c ≤ 1)

abbrev pub AllSound : Request → Type 0
AllSound r = (c : ℕ) → c < r.count → Sound r c

-- 33: a height and a width
abbrev pub Sized : Request → Type 0
Sized r = (r.y0 ≡ r.y1 → ⊥) × (r.x0 ≡ r.x1 → ⊥)

-- 34: profile and codestream
abbrev pub Short : Request → Type 0
Short r = (length r.profile ≤ 16777215) × (r.codestream ≤ 4261412863)

-- all of these
pub record Within (r : Request) : Type 0 where
  pub counted : Counted r
  pub listed : Listed r
  pub sound : AllSound r
  pub sized : Sized r
  pub short : Short r

-- 30: the bytes of all boxes before the codestream, and of its header: 70 that are in every file, and those of bpcc, colr and cdef
pub record Needs (r : Request) (n : ℕ) : Type 0 where
  pub bpcc : ℕ
  pub colr : ℕ
  pub cdef : ℕ
  pub whole : n ≡ 70 + bpcc + colr + cdef
  -- no bpcc where all components have the same bits, else a header and a byte for each
  pub same : SameBits r → bpcc ≡ 0
  pub other : (c : ℕ) → OtherBits r c → bpcc ≡ 8 + r.count
  -- a header, three bytes, and the colour space in four or the profile
  pub space : r.profile ≡ [] → colr ≡ 15
  pub profile : (r.profile ≡ [] → ⊥) → colr ≡ 11 + length r.profile
  -- a header, the count and six bytes for each component where one is the opacity, else no cdef
  pub defined : (o : ℕ) → Opacity r o → cdef ≡ 10 + 6 * r.count
  pub undefined : ((o : ℕ) → Opacity r o → ⊥) → cdef ≡ 0

-- the answer to a request by the rows of the table, in the order 31, 29, 32, 33, 34, 30: each is for a request that the rows above let through
pub data TableAnswer (r : Request) : Writing → Type 0 where
  by31 : (Counted r → ⊥) → TableAnswer r (declined 31 0)
  by29 : Counted r → (Listed r → ⊥) → TableAnswer r (declined 29 0)
  by32 : Counted r → Listed r → (c : ℕ) → c < r.count → ((i : ℕ) → i < c → Sound r i) → (Sound r c → ⊥) → TableAnswer r (declined 32 c)
  by33 : Counted r → Listed r → AllSound r → (Sized r → ⊥) → TableAnswer r (declined 33 0)
  by34 : Counted r → Listed r → AllSound r → Sized r → (Short r → ⊥) → TableAnswer r (declined 34 0)
  by30 : Within r → (n : ℕ) → Needs r n → r.room < n → TableAnswer r (declined 30 n)
  passes : Within r → (bs : List ℕ) → Needs r (length bs) → length bs ≤ r.room → TableAnswer r (written bs)

-- every request is answered so
abbrev pub EveryAnswer : Type 0
EveryAnswer = (r : Request) → Corners r → TableAnswer r (write r)

-- and so every request within the bounds is written where there is room for its bytes: nothing else is refused
abbrev pub Accepts : Type 0
Accepts = (r : Request) → Corners r → Within r → (n : ℕ) → Needs r n → n ≤ r.room → (bs : List ℕ) × (write r ≡ written bs) × (length bs ≡ n)

-- one length is needed, whatever the room
abbrev pub OneNeed : Type 0
OneNeed = (r : Request) (m n : ℕ) → Needs r m → Needs r n → m ≡ n
