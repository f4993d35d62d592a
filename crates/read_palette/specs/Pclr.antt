-- I.5.3.4, Palette box: NE (2 bytes), NPC (1), then Bi (1 each), the depth and sign of each column, then NE rows of one entry Cji for each column.
-- Difference 9: an entry of more than 32 bits has 4 bytes. Differences 39 and 40: bytes after the entries are passed over, and an entry may be larger than its depth.
use Rattle.std.specs.Prelude.{ℕ, zero, suc, ◌+◌, ◌*◌, ◌/◌, ◌%◌, List, length}
use Rattle.box_number.specs.Number.{number, least}
use Rattle.box_number.specs.Table.{◌=?◌, ◌≠?◌, ◌<?◌, ◌or◌, otherwise, ◌⇒◌∣◌, table}
use Rattle.read_record.specs.declared.Palette.{Palette}
use Rattle.read_record.specs.declared.Jp2.{Jp2}
use Rattle.read_record.specs.Record.{palette, with_pclr}
use Rattle.read_record.specs.Answer.{Result, accepted, refused}

abbrev pub NE : List ℕ → ℕ
NE c = number c 0 2

abbrev pub NPC : List ℕ → ℕ
NPC c = number c 2 1

-- the most entries that a palette may have
abbrev pub most_entries : ℕ
most_entries = 1024

-- what a Bi says: the low 7 bits and 1 are the depth in bits, the top bit is the sign
abbrev pub depth : ℕ → ℕ
depth b = b % 128 + 1

abbrev pub sign : ℕ → ℕ
sign b = b / 128

-- the bytes of an entry: as many as its bits fill, 4 at most
unfoldable pub entry_bytes : ℕ → ℕ
entry_bytes b = least ((depth b + 7) / 8) 4

-- the bytes that the first n columns of a row take; the columns' Bi start at a place of s
unfoldable pub row_bytes : List ℕ → ℕ → ℕ → ℕ
row_bytes s at zero = 0
row_bytes s at (suc n) = row_bytes s at n + entry_bytes (number s (at + n) 1)

-- of a palette that is kept in the file f: column i's Bi, the bytes of a row, and the entry Cji
abbrev pub B : List ℕ → Palette → ℕ → ℕ
B f p i = number f (p.place + i) 1

abbrev pub row_size : List ℕ → Palette → ℕ
row_size f p = row_bytes f p.place p.columns

unfoldable pub Cji : List ℕ → Palette → ℕ → ℕ → ℕ
Cji f p j i = number f (p.place + p.columns + j * row_size f p + row_bytes f p.place i) (entry_bytes (B f p i))

-- the box at a place of the file, with content c that begins at start
unfoldable pub pclr : ℕ → ℕ → List ℕ → Jp2 → Result
pclr place start c j =
    table
    (j.lists.pclr.columns ≠? 0 ⇒ refused 18 place
    ∣ length c <? 3 ⇒ refused 20 place
    ∣ NE c =? 0 or most_entries <? NE c or NPC c =? 0 ⇒ refused 19 place
    ∣ length c <? 3 + NPC c + NE c * row_bytes c 3 (NPC c) ⇒ refused 20 place
    ∣ otherwise (accepted (with_pclr (palette (start + 3) (NE c) (NPC c)) j)))
