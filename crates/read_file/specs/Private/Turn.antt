-- What a place of a file has, and the answer of a box of the header, for the walk's own functions.
use Rattle.std.specs.Prelude.{ℕ, ◌+◌, ◌≤◌, ◌≡◌, List, [], length, Option}
use Rattle.std.specs.Prelude as std
use Rattle.box_number.specs.Table.{Test, ◌=?◌, ◌≠?◌, ◌<?◌, ◌or◌, ◌and◌, otherwise, ◌⇒◌∣◌, table}
use Rattle.box_kind.specs.Kind.{kind_of, tag, ◌is◌}
use Rattle.box_kind.specs.declared.Jp2BoxType.{Jp2BoxType}
use Rattle.box_kind.specs.declared.Jp2BoxType.TheVariants.{JP2H, JP2C}
use Rattle.box_header.specs.Box.{largest, TBox, length_of_header, box_length, header_of}
use Rattle.box_header.specs.declared.Jp2BoxHeader.{Jp2BoxHeader}
use Rattle.read_record.specs.declared.Jp2.{Jp2}
use Rattle.read_record.specs.State.{bit, with_unknown}
use Rattle.read_record.specs.Answer.{Result, accepted}
use Rattle.read_jp2h.specs.Split.{Box}
use Rattle.read_jp2h.specs.HeaderBox.{header_box}
use Rattle.read_file.specs.declared.Found.{Found}
use Rattle.read_file.specs.declared.Found.TheVariants.{Codestream, Short, Past, Whole}

-- what the file has at the first byte of c: nothing where no header is there
unfoldable pub found : List ℕ → Option Found
found c =
    table
    (length c <? length_of_header c or largest <? box_length c ⇒ std.None
    ∣ kind_of (TBox c) is JP2C ⇒ std.Some (Codestream (length_of_header c))
    ∣ box_length c <? length_of_header c ⇒ std.Some Short
    ∣ length c <? box_length c ⇒ std.Some (Past (header_of c))
    ∣ otherwise (std.Some (Whole (header_of c))))

-- a header that was read from c, whose box lies in it; c reaches no further than 32 bits from a place on
pub record Heads (at : ℕ) (c : List ℕ) (h : Jp2BoxHeader) : Type 0 where
  pub same : h ≡ header_of c
  pub least : length_of_header c ≤ box_length c
  pub most : box_length c ≤ length c
  pub room : at + length c ≤ largest

abbrev pub box_with : Jp2BoxType → ℕ → ℕ → List ℕ → Box
box_with kind place start content = record { kind = kind; place = place; start = start; content = content }

-- a box whose content is not read
abbrev pub box_at : Jp2BoxType → ℕ → ℕ → Box
box_at kind place start = box_with kind place start []

-- a box outside jp2h before the header bit is set
abbrev pub is_early : Jp2BoxType → ℕ → Test
is_early kind state = tag kind ≠? tag JP2H and bit 4 state =? 0

-- jp2h, or a box of it outside jp2h
unfoldable pub header_or_skipped : Jp2BoxType → ℕ → ℕ → List ℕ → Jp2 → Result
header_or_skipped kind place start c k = table (is_early kind k.status.state ⇒ accepted (with_unknown k) ∣ otherwise (header_box kind place start c k))
