-- Document 01, "Colour, palette, order": a column of a palette, as entries that are the same number of bytes apart in a list of bytes.
use Rattle.std.specs.Prelude.{ℕ, zero, suc, ◌+◌, ◌-◌, ◌*◌, List, [], ◌∷◌, ◌++◌, ℤ}
use Rattle.box_number.specs.Table.{Test, ◌=?◌, ◌<?◌, ◌or◌}
use Rattle.box_number.specs.Number.{number}
use Rattle.picture_rules.specs.Samples.{clamped, displayed}
use Rattle.picture_rules.specs.Finish.{most_entries}
use Rattle.picture_planes.specs.declared.Column.{Column}

-- the most bytes of an entry
abbrev pub most_bytes : ℕ
most_bytes = 4

-- a column of no entries, of too many, or of entries with too many bytes
abbrev pub no_column : Column → Test
no_column k = k.entries =? 0 or most_entries <? k.entries or most_bytes <? k.wide

-- entry j, as a sample
abbrev pub entry_at : List ℕ → Column → ℕ → ℤ
entry_at s k j = displayed (number s (k.place + j * k.step) k.wide)

-- the first n entries
unfoldable pub column : List ℕ → Column → ℕ → List ℤ
column s k zero = []
column s k (suc n) = column s k n ++ (entry_at s k n ∷ [])

-- the entry that a sample picks
unfoldable pub picked : List ℕ → Column → ℤ → ℤ
picked s k v = entry_at s k (clamped v (k.entries - 1))
