-- I.4: a box is LBox (4 bytes), TBox (4), XLBox (8, only where LBox is 1), and its content. Here c is the bytes from the box's first to the last that it may have.
use Rattle.std.specs.Prelude.{ℕ, ◌+◌, Bool, true, false, List, ◌++◌, length, Result, Ok, Err}
use Rattle.box_number.specs.Table.{Test, ◌=?◌, ◌<?◌, otherwise, ◌⇒◌∣◌, table}
use Rattle.box_number.specs.Number.{number, bytes, placed}
use Rattle.box_kind.specs.Kind.{kind_of, number_of}
use Rattle.box_kind.specs.declared.Jp2BoxType.{Jp2BoxType}
use Rattle.box_header.specs.declared.Jp2BoxHeader.{Jp2BoxHeader}
use Rattle.box_header.specs.declared.NoHeader.{NoHeader}
use Rattle.box_header.specs.declared.NoHeader.TheVariants.{NoBytes, Cut, HighWord, LengthZero}

-- the largest length that 32 bits hold, and with it the longest file that is read
abbrev pub largest : ℕ
largest = 4294967295

abbrev pub LBox : List ℕ → ℕ
LBox c = number c 0 4

abbrev pub TBox : List ℕ → ℕ
TBox c = number c 4 4

abbrev pub XLBox : List ℕ → ℕ
XLBox c = number c 8 8

unfoldable pub length_of_header : List ℕ → ℕ
length_of_header c = table (LBox c =? 1 ⇒ 16 ∣ otherwise 8)

-- LBox 0: the box takes all the bytes that there are
unfoldable pub box_length : List ℕ → ℕ
box_length c = table (LBox c =? 0 ⇒ length c ∣ LBox c =? 1 ⇒ XLBox c ∣ otherwise (LBox c))

abbrev pub header_of : List ℕ → Jp2BoxHeader
header_of c = record { length = box_length c; ty = kind_of (TBox c); header_length = length_of_header c }

-- the three ways in which a header is missing; a length has 32 bits, and one with a high word is an answer of its own (difference 3)
unfoldable pub header : List ℕ → Result Jp2BoxHeader NoHeader
header c =
    table
    (length c =? 0 ⇒ Err NoBytes
    ∣ length c <? length_of_header c ⇒ Err Cut
    ∣ largest <? box_length c ⇒ Err HighWord
    ∣ otherwise (Ok (header_of c)))

-- inside a superbox LBox 0 is an answer of its own too: only the last box of the file may reach to an end that it does not name (difference 19)
unfoldable pub child_header : List ℕ → Result Jp2BoxHeader NoHeader
child_header c = table (length c <? 8 ⇒ header c ∣ LBox c =? 0 ⇒ Err LengthZero ∣ otherwise (header c))

-- what an answer means to a walk through boxes: a box to look at, the end of the boxes, or a refusal by one of document 01's numbers
pub data HeaderMeaning : Type 0 where
  goes_on : Jp2BoxHeader → HeaderMeaning
  ends : HeaderMeaning
  refuses : ℕ → HeaderMeaning

-- inside jp2h: its boxes end where no bytes are left; a header that is cut, has a high word or has length 0 is refused with 10
abbrev pub in_jp2h : Result Jp2BoxHeader NoHeader → HeaderMeaning
in_jp2h (Ok h) = goes_on h
in_jp2h (Err NoBytes) = ends
in_jp2h (Err Cut) = refuses 10
in_jp2h (Err HighWord) = refuses 10
in_jp2h (Err LengthZero) = refuses 10

-- in the file: a header that is missing ends the walk and is no refusal. LengthZero is no answer of `header`, since there length 0 means to the end of the file
abbrev pub in_file : Result Jp2BoxHeader NoHeader → HeaderMeaning
in_file (Ok h) = goes_on h
in_file (Err NoBytes) = ends
in_file (Err Cut) = ends
in_file (Err HighWord) = ends
in_file (Err LengthZero) = ends

-- the header of a box without content
abbrev pub new_header : Jp2BoxType → Jp2BoxHeader
new_header k = record { length = 8; ty = k; header_length = 8 }

-- LBox and TBox as they are written
abbrev pub header_bytes : Jp2BoxHeader → List ℕ
header_bytes h = bytes 4 h.length ++ bytes 4 (number_of h.ty)

abbrev pub no_header_room : List ℕ → ℕ → Test
no_header_room d at = length d <? at + 8

unfoldable pub fits_header : List ℕ → ℕ → Bool
fits_header d at = table (no_header_room d at ⇒ false ∣ otherwise true)

-- d with a header at a place, where it has room
unfoldable pub with_header : List ℕ → ℕ → Jp2BoxHeader → List ℕ
with_header d at h = table (no_header_room d at ⇒ d ∣ otherwise (placed d at (header_bytes h)))
