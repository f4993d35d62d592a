-- The parts of a picture in the list, from the bytes that begin with the picture. A number has 4 bytes; a list of numbers begins with its length.
use Rattle.std.specs.Prelude.{ℕ, ◌+◌, ◌*◌, ◌/◌, ◌%◌, List, length}
use Rattle.box_number.specs.Number.{number, part}
use Rattle.box_number.specs.Table.{◌=?◌, ◌<?◌, otherwise, ◌⇒◌∣◌, table}

-- number i, 0 past the end
unfoldable pub number_at : List ℕ → ℕ → ℕ
number_at s i = table (i <? length s / 4 ⇒ number s (i * 4) 4 ∣ otherwise 0)

-- the numbers of a list, and what is behind them
abbrev pub numbers_of : List ℕ → List ℕ
numbers_of s = part s 4 (number_at s 0 * 4 + 4)

abbrev pub behind_numbers : List ℕ → List ℕ
behind_numbers s = part s (number_at s 0 * 4 + 4) (length s)

-- the file, which begins with its length in bytes
abbrev pub file_of : List ℕ → List ℕ
file_of p = part p 4 (number_at p 0 + 4)

-- then the ignore flag and the number of components
abbrev pub flag_of : List ℕ → List ℕ
flag_of p = part p (number_at p 0 + 4) (length p)

abbrev pub components_of : List ℕ → List ℕ
components_of p = part (flag_of p) 8 (length (flag_of p))

abbrev pub samples_of : List ℕ → List ℕ
samples_of p = behind_numbers (components_of p)

-- the lengths of both destinations, then the five numbers of the answer
abbrev pub rooms_of : List ℕ → List ℕ
rooms_of p = behind_numbers (samples_of p)

-- number k of the answer: kind, number, place, of which the list has the high word and the low one, and the number of planes
unfoldable pub answer_number : List ℕ → ℕ → ℕ
answer_number p k =
    let s = rooms_of p in
    table
    (k =? 0 ⇒ number_at s 2
    ∣ k =? 1 ⇒ number_at s 3
    ∣ k =? 2 ⇒ number_at s 4 * 4294967296 + number_at s 5
    ∣ otherwise (number_at s 6))

-- where the finished records end: 28 bytes of lengths and answer, and 52 for each record
abbrev pub records_end : List ℕ → ℕ
records_end s = number_at s 6 * 52 + 28

abbrev pub records_of : List ℕ → List ℕ
records_of p = part (rooms_of p) 28 (records_end (rooms_of p))

-- the finished samples
abbrev pub planes_of : List ℕ → List ℕ
planes_of p = part (rooms_of p) (records_end (rooms_of p)) (length (rooms_of p))

-- what a lent list has at place i: the listed number, and behind the listed numbers a pattern in which no two neighbours are the same
unfoldable pub content_at : List ℕ → ℕ → ℕ
content_at listed i = table (i <? length listed / 4 ⇒ number_at listed i ∣ otherwise (i % 65536 + 0xa5a50000))
