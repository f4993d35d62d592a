-- What reading a file over a lent record leaves: its answer, and the record at exit. Together they are what the walk by value answers.
use Rattle.std.specs.Prelude.{ℕ}
use Rattle.std.specs.Prelude as std
use Rattle.box_refusal.specs.declared.Refusal.{Refusal}
use Rattle.box_refusal.specs.Told.{number}
use Rattle.read_record.specs.declared.Jp2.{Jp2}
use Rattle.read_rules.specs.declared.FileEnd.{FileEnd}
use Rattle.read_rules.specs.File.{Walked, file_refused, came_to}

abbrev pub leaves_file : std.Result FileEnd (Refusal ℕ) → Jp2 → Walked
leaves_file (std.Ok end) k = came_to end k
leaves_file (std.Err r) k = file_refused (number r.cause) r.place
