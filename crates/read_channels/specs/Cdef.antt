-- I.5.3.6, Channel Definition box: N (2 bytes), then N times Cni, Typi and Asoci (2 each). Difference 11: bytes after them are passed over.
use Rattle.std.specs.Prelude.{ℕ, ◌+◌, ◌*◌, List, length}
use Rattle.box_number.specs.Number.{number}
use Rattle.box_number.specs.Table.{◌=?◌, ◌≠?◌, ◌<?◌, otherwise, ◌⇒◌∣◌, table}
use Rattle.read_record.specs.declared.Span.{Span}
use Rattle.read_record.specs.declared.Jp2.{Jp2}
use Rattle.read_record.specs.Record.{span, with_cdef}
use Rattle.read_record.specs.Answer.{Result, accepted, refused}

abbrev pub N : List ℕ → ℕ
N c = number c 0 2

-- the fields of definition i of a list that is kept in the file f
abbrev pub Cn : List ℕ → Span → ℕ → ℕ
Cn f l i = number f (l.place + 6 * i) 2

abbrev pub Typ : List ℕ → Span → ℕ → ℕ
Typ f l i = number f (l.place + 6 * i + 2) 2

abbrev pub Asoc : List ℕ → Span → ℕ → ℕ
Asoc f l i = number f (l.place + 6 * i + 4) 2

-- the box at a place of the file, with content c that begins at start
unfoldable pub cdef : ℕ → ℕ → List ℕ → Jp2 → Result
cdef place start c j =
    table
    (j.lists.cdef.count ≠? 0 ⇒ refused 18 place
    ∣ length c <? 2 ⇒ refused 23 place
    ∣ N c =? 0 ⇒ refused 24 place
    ∣ length c <? 2 + 6 * N c ⇒ refused 23 place
    ∣ otherwise (accepted (with_cdef (span (start + 2) (N c)) j)))
