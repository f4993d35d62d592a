-- I.5.2, File Type box: BR (4 bytes), MinV (4), then the compatibility list, CL (4 each). Difference 4: no brand is asked for, and the list may be empty.
use Rattle.std.specs.Prelude.{ℕ, ◌+◌, ◌-◌, ◌*◌, ◌/◌, ◌%◌, List, length}
use Rattle.box_number.specs.Number.{number}
use Rattle.box_number.specs.Table.{◌≠?◌, ◌<?◌, ◌or◌, otherwise, ◌⇒◌∣◌, table}
use Rattle.read_record.specs.declared.Span.{Span}
use Rattle.read_record.specs.declared.Jp2.{Jp2}
use Rattle.read_record.specs.Record.{span, with_file_type, with_cl, with_state}
use Rattle.read_record.specs.State.{signature_read, file_type_read}
use Rattle.read_record.specs.Answer.{Result, accepted, refused}

abbrev pub BR : List ℕ → ℕ
BR c = number c 0 4

abbrev pub MinV : List ℕ → ℕ
MinV c = number c 4 4

-- entry i of a list that is kept in the file f
abbrev pub CL : List ℕ → Span → ℕ → ℕ
CL f l i = number f (l.place + 4 * i) 4

-- the box at a place of the file, with content c that begins at start
unfoldable pub file_type : ℕ → ℕ → List ℕ → Jp2 → Result
file_type place start c j =
    table
    (j.status.state ≠? signature_read or length c <? 8 or length c % 4 ≠? 0 ⇒ refused 8 place
    ∣ otherwise (accepted (with_state file_type_read (with_cl (span (start + 8) ((length c - 8) / 4)) (with_file_type (record { brand = BR c; minversion = MinV c }) j)))))
