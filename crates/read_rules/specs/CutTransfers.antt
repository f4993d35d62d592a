-- Request R-1: a picture that is broken off on the radio link. A file that reaches its codestream is cut anywhere, and what is there is read.
use Rattle.std.specs.Prelude.{ℕ, ◌+◌, ◌*◌, ◌/◌, ◌≤◌, ◌<◌, ◌≡◌, true, List, [], ◌∷◌, ◌++◌, length, take}
use Rattle.box_number.specs.Table.{◌<?◌, ◌or◌, otherwise, ◌⇒◌∣◌, Says, table}
use Rattle.box_kind.specs.Kind.{is_file_header, is_image_header}
use Rattle.read_record.specs.declared.Jp2.{Jp2}
use Rattle.read_record.specs.Record.{with_state}
use Rattle.read_record.specs.State.{unknown}
use Rattle.read_jp2h.specs.Split.{Box, Boxes, no_bytes, cut, high_word, to_end, short, past, ◌▸◌, boxes}
use Rattle.read_rules.specs.File.{Walked, codestream, ended, file_refused, is_read, run, walk}
use Rattle.read_rules.specs.Beginnings.{end_of}

-- of the boxes of a file those that lie wholly in its first n bytes
unfoldable pub before : ℕ → Boxes → Boxes
before n no_bytes = no_bytes
before n (cut place) = no_bytes
before n (high_word place) = no_bytes
before n (to_end b) = table (n <? end_of b ⇒ no_bytes ∣ otherwise (to_end b))
before n (short b) = no_bytes
before n (past b) = no_bytes
before n (b ▸ bs) = table (n <? end_of b ⇒ no_bytes ∣ otherwise (b ▸ before n bs))

-- the first box that does not, as a list of at most one
unfoldable pub first_cut : ℕ → Boxes → List Box
first_cut n no_bytes = []
first_cut n (cut place) = []
first_cut n (high_word place) = []
first_cut n (to_end b) = table (n <? end_of b ⇒ b ∷ [] ∣ otherwise [])
first_cut n (short b) = b ∷ []
first_cut n (past b) = b ∷ []
first_cut n (b ▸ bs) = table (n <? end_of b ⇒ b ∷ [] ∣ otherwise (first_cut n bs))

-- l is k in every field but the state. Its state is that of k, or that of k with the unknown bits set
pub record ButState (k l : Jp2) : Type 0 where
  pub fields : with_state 0 l ≡ with_state 0 k
  pub state : (l.status.state ≡ k.status.state → ⊥) → l.status.state ≡ unknown k.status.state

-- A file with the boxes bs is read from j to its codestream at an offset, with the record m. Its first n bytes answer one of three:
pub data CutShort (bs : Boxes) (j : Jp2) (offset : ℕ) (m : Jp2) (n : ℕ) : Walked → Type 0 where
  -- "codestream" with the same offset and record, where the codestream box's header is there;
  as_whole : offset ≤ n → CutShort bs j offset m n (codestream offset m)
  -- "ended", with the fields that the boxes wholly before the cut give;
  ended_with : n < offset → (k l : Jp2) → run (before n bs) j ≡ ended k → ButState k l → CutShort bs j offset m n (ended l)
  -- 4, at the first box that is not wholly there, which is one that is read and has its header there
  four_at : n < offset → (b : Box) → first_cut n bs ≡ b ∷ [] → b.start ≤ n → Says true (is_read b.kind) → CutShort bs j offset m n (file_refused 4 b.place)

-- the same, field by field
pub record FieldByField (k l : Jp2) : Type 0 where
  pub image : l.image ≡ k.image
  pub colour : l.colour ≡ k.colour
  pub filetype : l.filetype ≡ k.filetype
  pub lists : l.lists ≡ k.lists
  pub imgstate : l.status.imgstate ≡ k.status.imgstate
  pub hasjp2h : l.status.hasjp2h ≡ k.status.hasjp2h
  pub hasihdr : l.status.hasihdr ≡ k.status.hasihdr
  pub state : (l.status.state ≡ k.status.state → ⊥) → l.status.state ≡ k.status.state / 2147483648 * 2147483648 + 2147483647

-- What each of the three says, by the answer and in other words: no other offset, no other record and no other number
abbrev pub CutSays : Boxes → Jp2 → ℕ → Jp2 → ℕ → Walked → Type 0
CutSays bs j offset m n (codestream o r) = (offset ≤ n) × (o ≡ offset) × (r ≡ m)
CutSays bs j offset m n (ended l) = (n < offset) × ((k : Jp2) × (run (before n bs) j ≡ ended k) × FieldByField k l)
CutSays bs j offset m n (file_refused number place) = (n < offset) × (number ≡ 4) × ((b : Box) × (first_cut n bs ≡ b ∷ []) × (b.place ≡ place) × (b.start ≤ n) × Says true (is_file_header b.kind or is_image_header b.kind))

abbrev pub NothingElse : Type 0
NothingElse = (bs : Boxes) (j : Jp2) (offset : ℕ) (m : Jp2) (n : ℕ) (w : Walked) → CutShort bs j offset m n w → CutSays bs j offset m n w

-- every beginning of every such file, whatever record it is read from
abbrev pub CutTransfers : Type 0
CutTransfers = (f : List ℕ) (j : Jp2) (offset : ℕ) (m : Jp2) → walk f j ≡ codestream offset m → (n : ℕ) → n ≤ length f → CutShort (boxes 0 f) j offset m n (walk (take n f) j)

-- As one run can say it, where s is read from j with the result w: whatever bytes came after s and were lost, if the whole reaches its codestream, then w is one of the three
abbrev pub WhateverWasLost : List ℕ → Jp2 → Walked → Type 0
WhateverWasLost s j w = (rest : List ℕ) (offset : ℕ) (m : Jp2) → walk (s ++ rest) j ≡ codestream offset m → CutShort (boxes 0 (s ++ rest)) j offset m (length s) w

-- the promise of reading s from j: the result, and R-1 for whatever was lost behind s
pub record FileRead (s : List ℕ) (j : Jp2) (w : Walked) : Type 0 where
  pub exact : w ≡ walk s j
  pub cut : WhateverWasLost s j w

-- the box of length 0, as a list of at most one
abbrev pub length_zero : Boxes → List Box
length_zero no_bytes = []
length_zero (cut place) = []
length_zero (high_word place) = []
length_zero (to_end b) = b ∷ []
length_zero (short b) = []
length_zero (past b) = []
length_zero (b ▸ bs) = length_zero bs

-- The request says "with no top-level box of length 0 before that". It is so in every file that reaches its codestream: such a box takes all bytes up to the file's end, and is the codestream's own or comes after it
abbrev pub NoLengthZeroBefore : Type 0
NoLengthZeroBefore = (f : List ℕ) (j : Jp2) (offset : ℕ) (m : Jp2) → walk f j ≡ codestream offset m → (b : Box) → length_zero (boxes 0 f) ≡ b ∷ [] → (end_of b ≡ length f) × (offset ≤ b.start)
