-- Request R-1 for callers from C and Rust: what is said of a file that was broken off agrees with the whole file.
use Rattle.std.specs.Prelude.{ℕ, ◌≤◌, ◌<◌, ◌≡◌, List, ◌++◌, length, get_or, set, take}
use Rattle.read_record.specs.declared.Jp2.{Jp2}
use Rattle.read_record.specs.Record.{blank}
use Rattle.read_jp2h.specs.Split.{Boxes, boxes}
use Rattle.read_rules.specs.File.{Walked, codestream, ended, run, walk}
use Rattle.read_rules.specs.CutTransfers.{before, WhateverWasLost}
use Rattle.export_rules.specs.Places.{kind, value, state, reading_length, reading_ended, reading_refused}
use Rattle.export_rules.specs.Numbers.{numbers}

-- `old` and `new` are the list for the numbers, before the call and after it. Where it has room for them, they are those of a walk w; and whatever bytes came after the file and were lost, if the whole reaches its codestream, then w is one of the three answers of `CutShort`
abbrev pub CutTold : List ℕ → List ℕ → List ℕ → Type 0
CutTold file old new = reading_length ≤ length old → (w : Walked) × (take reading_length new ≡ numbers w) × WhateverWasLost file blank w

-- What a caller has of it: n bytes of a file with the boxes bs, which is read to its codestream at an offset, with the record m, gave the numbers xs
pub record CutNumbers (bs : Boxes) (xs : List ℕ) (offset : ℕ) (m : Jp2) (n : ℕ) : Type 0 where
  -- all 44 are those of the whole file, once the header of the codestream's box is there
  pub whole : offset ≤ n → take reading_length xs ≡ numbers (codestream offset m)
  -- before, the kind is "ended", or it is "refused" by 4
  pub kinds : n < offset → (get_or xs kind 0 ≡ reading_ended → ⊥) → get_or xs kind 0 ≡ reading_refused
  pub number : n < offset → get_or xs kind 0 ≡ reading_refused → get_or xs value 0 ≡ 4
  -- at "ended" all 44 are those that the boxes wholly before the cut give, with the state left out of both
  pub fields : n < offset → get_or xs kind 0 ≡ reading_ended → (k : Jp2) × (run (before n bs) blank ≡ ended k) × (set (take reading_length xs) state 0 ≡ set (numbers (ended k)) state 0)

abbrev pub CutTells : Type 0
CutTells = (file old new rest : List ℕ) (offset : ℕ) (m : Jp2) → CutTold file old new → reading_length ≤ length old → walk (file ++ rest) blank ≡ codestream offset m → CutNumbers (boxes 0 (file ++ rest)) new offset m (length file)
