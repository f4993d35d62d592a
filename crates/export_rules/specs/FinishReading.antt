-- Finishing a picture with the reading of its file, which the caller gives as numbers and which is not trusted.
use Rattle.std.specs.Prelude.{ℕ, List, length, get_or}
use Rattle.box_number.specs.Table.{Test, ◌=?◌, ◌<?◌, ◌or◌, ◌and◌, otherwise, ◌⇒◌∣◌, table}
use Rattle.read_record.specs.declared.Jp2.{Jp2}
use Rattle.read_record.specs.Record.{blank, span, palette, with_pclr, with_cmap, with_cdef}
use Rattle.picture_rules.specs.Words.{Handed}
use Rattle.picture_rules.specs.Finish.{Finishing, declined, finish}
use Rattle.export_rules.specs.Places as at

-- the last of document 01's numbers by which reading refuses
abbrev pub last_of_reading : ℕ
last_of_reading = 24

-- the largest number of 32 bits
abbrev pub largest : ℕ
largest = 4294967295

-- a refusal with a number that reading does not give
abbrev pub misnumbered : ℕ → ℕ → Test
misnumbered kind number = kind =? at.reading_refused and (number =? 0 or last_of_reading <? number)

-- a list that is no reading: it has too few numbers, or a kind of answer, a number of a refusal, or a size of a palette (32 bits) that no reading has
abbrev pub no_reading : List ℕ → Test
no_reading xs =
    length xs <? at.reading_length
    or at.reading_refused <? get_or xs at.kind 0
    or misnumbered (get_or xs at.kind 0) (get_or xs at.value 0)
    or largest <? get_or xs at.pclr_entries 0
    or largest <? get_or xs at.pclr_columns 0

-- the record, as far as finishing looks at it: the palette, the mappings and the definitions
abbrev pub record_of : List ℕ → Jp2
record_of xs =
    with_pclr (palette (get_or xs at.pclr_place 0) (get_or xs at.pclr_entries 0) (get_or xs at.pclr_columns 0))
    (with_cmap (span (get_or xs at.cmap_place 0) (get_or xs at.cmap_count 0)) (with_cdef (span (get_or xs at.cdef_place 0) (get_or xs at.cdef_count 0)) blank))

-- 29 where the list is no reading; a refusal of reading as it is; else the picture is finished with that record
unfoldable pub finish_reading : Handed → List ℕ → Finishing
finish_reading h xs =
    table
    (no_reading xs ⇒ declined 29 0
    ∣ get_or xs at.kind 0 =? at.reading_refused ⇒ declined (get_or xs at.value 0) (get_or xs at.place 0)
    ∣ otherwise (finish h (record_of xs)))
