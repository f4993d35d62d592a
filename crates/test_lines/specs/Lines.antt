-- Lines and counts of the test programs.
use Rattle.std.specs.Prelude.{ℕ, ◌+◌, ◌%◌, ◌^◌, List, length, take, slice_index, slice_set}
use Rattle.box_number.specs.Table.{◌<?◌, otherwise, ◌⇒◌∣◌, table}

-- the most bytes of a line
abbrev pub most : ℕ
most = 4096

-- how many bytes of a text are printed
abbrev pub printed : List ℕ → ℕ
printed line = length (take most line)

-- a tally with 1 more at count k, by 64 bits
unfoldable pub tallied : ℕ → List ℕ → List ℕ
tallied k tally = table (k <? length tally ⇒ slice_set tally k ((slice_index tally k + 1) % 2 ^ 64) ∣ otherwise tally)
