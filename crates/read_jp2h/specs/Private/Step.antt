-- What the functions of the loop answer: the box that is read next, and the status before the first and after the last.
use Rattle.std.specs.Prelude.{ℕ, ◌+◌, Bool, true, false, not, List, length, Option, Some, None}
use Rattle.box_number.specs.Number.{part}
use Rattle.box_number.specs.Table.{◌=?◌, ◌≠?◌, ◌<?◌, flag, ◌and◌, ◌or◌, otherwise, ◌⇒◌∣◌, table}
use Rattle.box_header.specs.Box.{largest, LBox, length_of_header, box_length, header_of}
use Rattle.box_kind.specs.declared.Jp2BoxType.{Jp2BoxType}
use Rattle.read_record.specs.declared.Jp2.{Jp2}
use Rattle.read_record.specs.declared.Status.{Status}
use Rattle.read_record.specs.Record.{status}
use Rattle.read_record.specs.State.{bit, with_bit}
use Rattle.read_record.specs.Answer.{Result}
use Rattle.read_jp2h.specs.Child.{reader}
use Rattle.read_jp2h.specs.declared.Item.{Item}
use Rattle.box_refusal.specs.Told.{Told, accepted, refused}

-- the number for which the first box of c is refused, 0 for none
unfoldable pub fault : List ℕ → ℕ
fault c =
    table
    (length c <? length_of_header c or LBox c =? 0 or largest <? box_length c ⇒ 10
    ∣ box_length c <? length_of_header c or length c <? box_length c ⇒ 11
    ∣ otherwise 0)

-- the first box of c, at a place of the file
abbrev pub first_item : ℕ → List ℕ → Item
first_item at c = record { place = at; header = header_of c }

unfoldable pub next_child : ℕ → List ℕ → Told (Option Item)
next_child at c = table (length c =? 0 ⇒ accepted None ∣ fault c ≠? 0 ⇒ refused (fault c) at ∣ otherwise (accepted (Some (first_item at c))))

-- a box that is alone has all of c as its content, and no header there
abbrev pub lone_item : Jp2BoxType → ℕ → List ℕ → Item
lone_item kind place c = record { place = place; header = record { length = length c; ty = kind; header_length = 0 } }

abbrev pub next : Bool → Jp2BoxType → ℕ → ℕ → List ℕ → Told (Option Item)
next true kind place at c = accepted (Some (lone_item kind place c))
next false kind place at c = next_child at c

abbrev pub read_item : Item → ℕ → List ℕ → Jp2 → Result
read_item b at c k = let h = b.header in reader h.ty b.place (at + h.header_length) (part c h.header_length h.length) k

-- the tests of a box before its content is read
unfoldable pub admitted : Bool → ℕ → ℕ → List ℕ → ℕ → Told Unit
admitted alone place start c state =
    table
    (largest <? start + length c ⇒ refused 4 place
    ∣ flag (not alone) and bit 2 state =? 0 ⇒ refused 9 place
    ∣ otherwise (accepted tt))

abbrev pub opened : Bool → Status → Status
opened true s = s
opened false s = status s.state 0 s.hasjp2h s.hasihdr

abbrev pub closed : Bool → Status → Status
closed true s = s
closed false s = status (with_bit 4 s.state) s.imgstate 1 s.hasihdr
