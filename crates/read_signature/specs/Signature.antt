-- I.5.1, JPEG 2000 Signature box: four bytes, the first box of a file. Difference 42: its length may be an extended one.
use Rattle.std.specs.Prelude.{ℕ, List, length}
use Rattle.box_number.specs.Number.{number}
use Rattle.box_number.specs.Table.{◌≠?◌, ◌or◌, otherwise, ◌⇒◌∣◌, table}
use Rattle.read_record.specs.declared.Jp2.{Jp2}
use Rattle.read_record.specs.Record.{with_state}
use Rattle.read_record.specs.State.{signature_read}
use Rattle.read_record.specs.Answer.{Result, accepted, refused}

-- the content of the box: line ends and a control character, which a transfer as text would change
abbrev pub signature_content : ℕ
signature_content = 0x0d0a870a

-- the box at a place of the file, with content c that begins at start
unfoldable pub signature : ℕ → ℕ → List ℕ → Jp2 → Result
signature place start c j =
    table
    (j.status.state ≠? 0 or length c ≠? 4 or number c 0 4 ≠? signature_content ⇒ refused 7 place
    ∣ otherwise (accepted (with_state signature_read j)))
