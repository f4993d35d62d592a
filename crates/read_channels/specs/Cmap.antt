-- I.5.3.5, Component Mapping box: for each channel CMPi (2 bytes), MTYPi (1) and PCOLi (1). Difference 10: it has one mapping for each column of the palette, which comes before it,
-- and bytes after them are passed over.
use Rattle.std.specs.Prelude.{ℕ, ◌+◌, ◌*◌, List, length}
use Rattle.box_number.specs.Number.{number}
use Rattle.box_number.specs.Table.{◌=?◌, ◌≠?◌, ◌<?◌, otherwise, ◌⇒◌∣◌, table}
use Rattle.read_record.specs.declared.Span.{Span}
use Rattle.read_record.specs.declared.Jp2.{Jp2}
use Rattle.read_record.specs.Record.{span, with_cmap}
use Rattle.read_record.specs.Answer.{Result, accepted, refused}

-- the fields of mapping i of a list that is kept in the file f
abbrev pub CMP : List ℕ → Span → ℕ → ℕ
CMP f l i = number f (l.place + 4 * i) 2

abbrev pub MTYP : List ℕ → Span → ℕ → ℕ
MTYP f l i = number f (l.place + 4 * i + 2) 1

abbrev pub PCOL : List ℕ → Span → ℕ → ℕ
PCOL f l i = number f (l.place + 4 * i + 3) 1

-- the box at a place of the file, with content c that begins at start
unfoldable pub cmap : ℕ → ℕ → List ℕ → Jp2 → Result
cmap place start c j =
    let n = j.lists.pclr.columns in
    table
    (n =? 0 ⇒ refused 21 place
    ∣ j.lists.cmap.count ≠? 0 ⇒ refused 18 place
    ∣ length c <? 4 * n ⇒ refused 22 place
    ∣ otherwise (accepted (with_cmap (span start n) j)))
