-- I.5.3.1, Image Header box: HEIGHT (4 bytes), WIDTH (4), NC (2), BPC, C, UnkC and IPR (1 each). Differences 5 and 6: a further ihdr is skipped whatever its length, and BPC, C, UnkC and IPR
-- may have any value.
use Rattle.std.specs.Prelude.{ℕ, List, length}
use Rattle.box_number.specs.Number.{number}
use Rattle.box_number.specs.Table.{◌=?◌, ◌≠?◌, ◌<?◌, ◌or◌, otherwise, ◌⇒◌∣◌, table}
use Rattle.read_record.specs.declared.Image.{Image}
use Rattle.read_record.specs.declared.Jp2.{Jp2}
use Rattle.read_record.specs.Component.{most_components}
use Rattle.read_record.specs.Record.{with_image, with_has_ihdr}
use Rattle.read_record.specs.Answer.{Result, accepted, refused}

abbrev pub HEIGHT : List ℕ → ℕ
HEIGHT c = number c 0 4

abbrev pub WIDTH : List ℕ → ℕ
WIDTH c = number c 4 4

abbrev pub NC : List ℕ → ℕ
NC c = number c 8 2

abbrev pub BPC : List ℕ → ℕ
BPC c = number c 10 1

abbrev pub C : List ℕ → ℕ
C c = number c 11 1

abbrev pub UnkC : List ℕ → ℕ
UnkC c = number c 12 1

abbrev pub IPR : List ℕ → ℕ
IPR c = number c 13 1

abbrev pub image_fields : List ℕ → Image
image_fields c = record { h = HEIGHT c; w = WIDTH c; numcomps = NC c; bpc = BPC c; c = C c; unkc = UnkC c; ipr = IPR c }

-- the box at a place of the file, with content c that begins at start; once the components are known a further ihdr is skipped
unfoldable pub ihdr : ℕ → ℕ → List ℕ → Jp2 → Result
ihdr place start c j =
    table
    (j.image.numcomps ≠? 0 ⇒ accepted j
    ∣ length c ≠? 14 ⇒ refused 13 place
    ∣ HEIGHT c =? 0 or WIDTH c =? 0 or NC c =? 0 ⇒ refused 14 place
    ∣ most_components <? NC c ⇒ refused 15 place
    ∣ otherwise (accepted (with_has_ihdr (with_image (image_fields c) j))))
