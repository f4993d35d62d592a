-- The promise of a file over a lent record, `FileRead` and that a refusal leaves the record, leaves one answer and one record: that of the computed files, after a refusal too.
use Rattle.std.specs.Prelude.{◌≡◌, ℕ, List, OnErr}
use Rattle.std.specs.Prelude as std
use Rattle.box_refusal.specs.declared.Refusal.{Refusal}
use Rattle.read_record.specs.declared.Jp2.{Jp2}
use Rattle.read_rules.specs.declared.FileEnd.{FileEnd}
use Rattle.read_rules.specs.File.{walk, after}
use Rattle.read_rules.specs.CutTransfers.{FileRead}
use Rattle.read_lent.specs.LentFile.{leaves_file}

abbrev pub OneReading : Type 0
OneReading = (a b : std.Result FileEnd (Refusal ℕ)) (j k : Jp2) (s : List ℕ) (i : Jp2) → FileRead s i (leaves_file a j) → OnErr a (j ≡ i) → FileRead s i (leaves_file b k) → OnErr b (k ≡ i) → (a ≡ b) × (j ≡ k)

abbrev pub RecordAfter : Type 0
RecordAfter = (r : std.Result FileEnd (Refusal ℕ)) (j : Jp2) (s : List ℕ) (i : Jp2) → FileRead s i (leaves_file r j) → OnErr r (j ≡ i) → j ≡ after i (walk s i)
