-- What a reader answers: the record that it leaves, or a number of the table and the place.
use Rattle.box_refusal.specs.Told.{Told}
pub use Rattle.box_refusal.specs.Told.{accepted, refused, told}
use Rattle.read_record.specs.declared.Jp2.{Jp2}

abbrev pub Result : Type 0
Result = Told Jp2

-- one reading after another: the first refusal ends it
abbrev pub and_then : Result → (Jp2 → Result) → Result
and_then (accepted j) next = next j
and_then (refused number place) next = refused number place
