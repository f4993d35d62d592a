-- What is written and read back at once, and that it comes back.
use Rattle.std.specs.Prelude.{ℕ, ◌≡◌, List, take}
use Rattle.box_refusal.specs.Told.{Told, accepted, refused}
use Rattle.read_record.specs.declared.Jp2.{Jp2}
use Rattle.read_rules.specs.File.{Walked, codestream, read}
use Rattle.write_rules.specs.Request.{Request}
use Rattle.write_rules.specs.RoundTrip.{ReadBack}

-- how many bytes were written
abbrev pub bytes_of : Told ℕ → ℕ
bytes_of (accepted n) = n
bytes_of (refused number place) = 0

-- the reading of what was written to a destination
abbrev pub reading_of : Told ℕ → List ℕ → Walked
reading_of w d = read (take (bytes_of w) d)

-- what was written for a request comes back: the codestream where writing says, and every field
abbrev pub ComesBack : Request → Told ℕ → List ℕ → Walked → Type 0
ComesBack r w d back = (n : ℕ) → w ≡ accepted n → (m : Jp2) × (back ≡ codestream n m) × ReadBack r (take n d) m
