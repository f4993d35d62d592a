-- The 44 numbers of a reading: its answer and its record as a list, for callers from C and Rust.
use Rattle.std.specs.Prelude.{ℕ, ◌≡◌, List, [], ◌∷◌, ◌++◌, length, get_or}
use Rattle.read_record.specs.declared.Image.{Image}
use Rattle.read_record.specs.declared.Colour.{Colour}
use Rattle.read_record.specs.declared.FileType.{FileType}
use Rattle.read_record.specs.declared.Lists.{Lists}
use Rattle.read_record.specs.declared.Status.{Status}
use Rattle.read_record.specs.declared.Jp2.{Jp2}
use Rattle.read_record.specs.Record.{blank}
use Rattle.read_rules.specs.File.{Walked, codestream, ended, file_refused, after}
use Rattle.export_rules.specs.Places.{kind, value, place, pclr_place, pclr_entries, pclr_columns, cmap_place, cmap_count, cdef_place, cdef_count, state, reading_length, reading_codestream, reading_ended, reading_refused}

-- 0 to 2: 0 and the codestream's offset; 1 for "ended"; 2, document 01's number and the place
abbrev pub of_answer : Walked → List ℕ
of_answer (codestream offset k) = reading_codestream ∷ offset ∷ 0 ∷ []
of_answer (ended k) = reading_ended ∷ 0 ∷ 0 ∷ []
of_answer (file_refused number at) = reading_refused ∷ number ∷ at ∷ []

-- the number of a refusal, 0 for any other answer
abbrev pub refusal_number : Walked → ℕ
refusal_number (codestream offset k) = 0
refusal_number (ended k) = 0
refusal_number (file_refused number at) = number

-- 3 to 9
abbrev pub of_image : Image → List ℕ
of_image i = i.h ∷ i.w ∷ i.numcomps ∷ i.bpc ∷ i.c ∷ i.unkc ∷ i.ipr ∷ []

-- 10 to 24; the nine numbers of CIELab are 14 to 22
abbrev pub of_colour : Colour → List ℕ
of_colour c =
    c.meth ∷
    c.precedence ∷
    c.approx ∷
    c.enumcs ∷
    get_or c.lab.numbers 0 0 ∷
    get_or c.lab.numbers 1 0 ∷
    get_or c.lab.numbers 2 0 ∷
    get_or c.lab.numbers 3 0 ∷
    get_or c.lab.numbers 4 0 ∷
    get_or c.lab.numbers 5 0 ∷
    get_or c.lab.numbers 6 0 ∷
    get_or c.lab.numbers 7 0 ∷
    get_or c.lab.numbers 8 0 ∷
    c.lab.count ∷
    c.held ∷
    []

-- 25 and 26
abbrev pub of_file_type : FileType → List ℕ
of_file_type t = t.brand ∷ t.minversion ∷ []

-- 27 to 39
abbrev pub of_lists : Lists → List ℕ
of_lists l =
    l.cl.place ∷
    l.cl.count ∷
    l.bpcc.place ∷
    l.bpcc.count ∷
    l.icc.place ∷
    l.icc.count ∷
    l.pclr.place ∷
    l.pclr.entries ∷
    l.pclr.columns ∷
    l.cmap.place ∷
    l.cmap.count ∷
    l.cdef.place ∷
    l.cdef.count ∷
    []

-- 40 to 43
abbrev pub of_status : Status → List ℕ
of_status s = s.state ∷ s.imgstate ∷ s.hasjp2h ∷ s.hasihdr ∷ []

-- 0 to 24; a refusal has the record before any box
abbrev pub first_numbers : Walked → List ℕ
first_numbers w = of_answer w ++ of_image (after blank w).image ++ of_colour (after blank w).colour

-- 25 to 43
abbrev pub last_numbers : Jp2 → List ℕ
last_numbers j = of_file_type j.filetype ++ of_lists j.lists ++ of_status j.status

-- all 44
abbrev pub numbers : Walked → List ℕ
numbers w = first_numbers w ++ last_numbers (after blank w)

-- the positions in Places.antt are those of these numbers
pub record PlacesRight (w : Walked) : Type 0 where
  pub answer : (get_or (numbers w) kind 0 ∷ get_or (numbers w) value 0 ∷ get_or (numbers w) place 0 ∷ []) ≡ of_answer w
  pub pclr : (get_or (numbers w) pclr_place 0 ≡ (after blank w).lists.pclr.place) × ((get_or (numbers w) pclr_entries 0 ≡ (after blank w).lists.pclr.entries) × (get_or (numbers w) pclr_columns 0 ≡ (after blank w).lists.pclr.columns))
  pub cmap : (get_or (numbers w) cmap_place 0 ≡ (after blank w).lists.cmap.place) × (get_or (numbers w) cmap_count 0 ≡ (after blank w).lists.cmap.count)
  pub cdef : (get_or (numbers w) cdef_place 0 ≡ (after blank w).lists.cdef.place) × (get_or (numbers w) cdef_count 0 ≡ (after blank w).lists.cdef.count)
  pub status : get_or (numbers w) state 0 ≡ (after blank w).status.state
  pub long : length (numbers w) ≡ reading_length
