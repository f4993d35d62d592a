-- The positions of the numbers in the two lists that the exports give. include/cuzhantir_jp2.h has the same names and positions.
use Rattle.std.specs.Prelude.{ℕ}

-- A reading. Numbers.antt has all 44 in their order; named here are those that finishing looks at, and the state.
abbrev pub kind : ℕ
kind = 0

abbrev pub value : ℕ
value = 1

abbrev pub place : ℕ
place = 2

abbrev pub pclr_place : ℕ
pclr_place = 33

abbrev pub pclr_entries : ℕ
pclr_entries = 34

abbrev pub pclr_columns : ℕ
pclr_columns = 35

abbrev pub cmap_place : ℕ
cmap_place = 36

abbrev pub cmap_count : ℕ
cmap_count = 37

abbrev pub cdef_place : ℕ
cdef_place = 38

abbrev pub cdef_count : ℕ
cdef_count = 39

abbrev pub state : ℕ
state = 40

abbrev pub reading_length : ℕ
reading_length = 44

-- The values of the kind of a reading.
abbrev pub reading_codestream : ℕ
reading_codestream = 0

abbrev pub reading_ended : ℕ
reading_ended = 1

abbrev pub reading_refused : ℕ
reading_refused = 2

-- An answer of finishing or writing.
abbrev pub answer_kind : ℕ
answer_kind = 0

abbrev pub answer_number : ℕ
answer_number = 1

abbrev pub answer_place : ℕ
answer_place = 2

abbrev pub answer_count : ℕ
answer_count = 3

abbrev pub answer_length : ℕ
answer_length = 4

-- The values of the kind of an answer.
abbrev pub answer_done : ℕ
answer_done = 0

abbrev pub answer_refused : ℕ
answer_refused = 1
