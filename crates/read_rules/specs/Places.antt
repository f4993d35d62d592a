-- The places and numbers of a file that is refused, or reaches its codestream.
use Rattle.std.specs.Prelude.{ℕ, ◌≤◌, ◌<◌, ◌≡◌, List, length}
use Rattle.read_record.specs.declared.Jp2.{Jp2}
use Rattle.read_rules.specs.File.{codestream, file_refused, walk}

-- a file is refused at one of its bytes, and its codestream starts at a byte or at the file's end, whatever record it is read from
pub record PlacesWithin : Type 0 where
  pub refusal : (f : List ℕ) (j : Jp2) (number place : ℕ) → walk f j ≡ file_refused number place → place < length f
  pub stream : (f : List ℕ) (j : Jp2) (offset : ℕ) (m : Jp2) → walk f j ≡ codestream offset m → offset ≤ length f

-- a file is refused by one of document 01's numbers for reading, whatever record it is read from
abbrev pub NumbersWithin : Type 0
NumbersWithin = (f : List ℕ) (j : Jp2) (number place : ℕ) → walk f j ≡ file_refused number place → (1 ≤ number) × (number ≤ 24)

-- a file of more than 4294967295 bytes is refused for that, whatever bytes it has and whatever record it is read from
abbrev pub TooLong : Type 0
TooLong = (f : List ℕ) (j : Jp2) → 4294967295 < length f → walk f j ≡ file_refused 1 0
