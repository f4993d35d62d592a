-- I.5.3.2, Bits Per Component box: one byte for each component. Differences 6 and 7: a byte may have any value; it is read whatever BPC says, and a further one takes the place of the one before.
use Rattle.std.specs.Prelude.{ℕ, ◌+◌, List, length}
use Rattle.box_number.specs.Number.{number}
use Rattle.box_number.specs.Table.{◌≠?◌, otherwise, ◌⇒◌∣◌, table}
use Rattle.read_record.specs.declared.Span.{Span}
use Rattle.read_record.specs.declared.Jp2.{Jp2}
use Rattle.read_record.specs.Record.{span, with_bpcc}
use Rattle.read_record.specs.Answer.{Result, accepted, refused}

-- the byte of component i of a list that is kept in the file f
abbrev pub BPCi : List ℕ → Span → ℕ → ℕ
BPCi f l i = number f (l.place + i) 1

-- the box at a place of the file, with content c that begins at start
unfoldable pub bpcc : ℕ → ℕ → List ℕ → Jp2 → Result
bpcc place start c j = table (length c ≠? j.image.numcomps ⇒ refused 17 place ∣ otherwise (accepted (with_bpcc (span start (length c)) j)))
