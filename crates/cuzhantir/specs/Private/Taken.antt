-- The premise of `record_of`.
use Rattle.std.specs.Prelude.{ℕ, ◌≤◌, List, length, get_or}
use Rattle.export_rules.specs.Places as at
use Rattle.export_rules.specs.FinishReading.{largest}

-- a list that is accepted as a reading: it is long enough, and the palette's sizes have 32 bits
pub record Taken (xs : List ℕ) : Type 0 where
  pub long : at.reading_length ≤ length xs
  pub entries : get_or xs at.pclr_entries 0 ≤ largest
  pub columns : get_or xs at.pclr_columns 0 ≤ largest
