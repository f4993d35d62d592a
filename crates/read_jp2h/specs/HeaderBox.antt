-- A box of the file that belongs to the header: jp2h, or a box of another kind outside jp2h (difference 13), which its own reader reads.
use Rattle.std.specs.Prelude.{ℕ, ◌+◌, List, length}
use Rattle.box_number.specs.Table.{◌<?◌, otherwise, ◌⇒◌∣◌, table}
use Rattle.box_kind.specs.Kind.{◌is◌}
use Rattle.box_kind.specs.declared.Jp2BoxType.{Jp2BoxType}
use Rattle.box_kind.specs.declared.Jp2BoxType.TheVariants.{JP2H}
use Rattle.box_header.specs.Box.{largest}
use Rattle.read_record.specs.declared.Jp2.{Jp2}
use Rattle.read_record.specs.Answer.{Result, refused}
use Rattle.read_jp2h.specs.Child.{reader}
use Rattle.read_jp2h.specs.Jp2h.{jp2h}

-- the box of a kind, at a place of the file, with content c that begins at start; a content that reaches past the last place that a file can have is past the file
unfoldable pub header_box : Jp2BoxType → ℕ → ℕ → List ℕ → Jp2 → Result
header_box kind place start c j =
    table
    (largest <? start + length c ⇒ refused 4 place
    ∣ kind is JP2H ⇒ jp2h place start c j
    ∣ otherwise (reader kind place start c j))
