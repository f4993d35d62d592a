-- I.4: a file, and the content of a superbox, is a sequence of boxes. It splits into boxes by their headers alone.
use Rattle.std.specs.Prelude.{ℕ, zero, suc, ◌+◌, List, length, drop}
use Rattle.box_number.specs.Number.{part}
use Rattle.box_number.specs.Table.{◌=?◌, ◌<?◌, otherwise, ◌⇒◌∣◌, table}
use Rattle.box_kind.specs.Kind.{kind_of}
use Rattle.box_kind.specs.declared.Jp2BoxType.{Jp2BoxType}
use Rattle.box_header.specs.Box.{largest, LBox, TBox, length_of_header, box_length}

infixr 60 ◌▸◌
-- a box: its kind, where it starts, where its content starts, and its content
pub record Box : Type 0 where
  pub kind : Jp2BoxType
  pub place : ℕ
  pub start : ℕ
  pub content : List ℕ

-- whole boxes in order, and how they end: no bytes are left, a header is cut short, a length has a high word (each at a place), or the last box takes all bytes that
-- are left (LBox 0), has a length below its own header's, or reaches past the end
pub data Boxes : Type 0 where
  no_bytes : Boxes
  cut : ℕ → Boxes
  high_word : ℕ → Boxes
  to_end : Box → Boxes
  short : Box → Boxes
  past : Box → Boxes
  ◌▸◌ : Box → Boxes → Boxes

-- the box that c starts with, at a place of the file
abbrev pub first_box : ℕ → List ℕ → Box
first_box at c = record { kind = kind_of (TBox c); place = at; start = at + length_of_header c; content = part c (length_of_header c) (box_length c) }

-- the boxes of c, which starts at a place of the file; there are no more than the first number
unfoldable pub split : ℕ → ℕ → List ℕ → Boxes
split zero at c = no_bytes
split (suc n) at c =
    table
    (length c =? 0 ⇒ no_bytes
    ∣ length c <? length_of_header c ⇒ cut at
    ∣ largest <? box_length c ⇒ high_word at
    ∣ LBox c =? 0 ⇒ to_end (first_box at c)
    ∣ box_length c <? length_of_header c ⇒ short (first_box at c)
    ∣ length c <? box_length c ⇒ past (first_box at c)
    ∣ otherwise (first_box at c ▸ split n (at + box_length c) (drop (box_length c) c)))

abbrev pub boxes : ℕ → List ℕ → Boxes
boxes at c = split (length c) at c
