-- Reading a file and then finishing its picture is the same as both in one step.
use Rattle.std.specs.Prelude.{ℕ, ◌<◌, ◌≡◌, List, ℤ, get_or, take}
use Rattle.box_number.specs.Number.{placed}
use Rattle.read_record.specs.declared.Jp2.{Jp2}
use Rattle.read_rules.specs.File.{read}
use Rattle.picture_rules.specs.Words.{Handed}
use Rattle.picture_rules.specs.OrderFreedom.{AlikeButOrder}
use Rattle.box_refusal.specs.Told.{Told}
use Rattle.picture_rules.specs.Answers.{Done}
use Rattle.picture_rules.specs.Whole.{pictured, Demand3}
use Rattle.export_rules.specs.Places.{reading_length}
use Rattle.export_rules.specs.Numbers.{numbers}
use Rattle.export_rules.specs.FinishReading.{finish_reading}

-- a file of bytes, as every slice of them is
abbrev pub FileOfBytes : List ℕ → Type 0
FileOfBytes f = (i : ℕ) → get_or f i 0 < 256

-- a list that begins with the numbers of the file's reading, whatever follows them
abbrev pub ReadingOf : List ℕ → List ℕ → Type 0
ReadingOf f xs = take reading_length xs ≡ numbers (read f)

-- what reading a file leaves in any list is such a list
abbrev pub ReadingGiven : Type 0
ReadingGiven = (f d : List ℕ) → ReadingOf f (placed d 0 (numbers (read f)))

-- it is one for every other file too that is alike in all but the order of definitions: one reading serves both
abbrev pub ReadingShared : Type 0
ReadingShared = (h : Handed) (g : List ℕ) (m : Jp2) (xs : List ℕ) → AlikeButOrder h g m → ReadingOf h.file xs → ReadingOf g xs

-- finishing with it gives the same as both in one step
abbrev pub TwoSteps : Type 0
TwoSteps = (h : Handed) (xs : List ℕ) → FileOfBytes h.file → ReadingOf h.file xs → finish_reading h xs ≡ pictured h

-- the promise of finishing with a list xs: the answer, both destinations and, where xs is a reading of the file, demand 3
pub record ReadingFinished (h : Handed) (xs : List ℕ) (r : Told ℕ) (records records' : List ℕ) (planes planes' : List ℤ) : Type 0 where
  pub done : Done (finish_reading h xs) r records records' planes planes'
  pub demand3 : ReadingOf h.file xs → Demand3 h r records' planes planes'
