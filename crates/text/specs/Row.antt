-- I.5.3.4: a row of a palette.
use Rattle.std.specs.Prelude.{ℕ, List, [], ◌∷◌, drop}
use Rattle.box_number.specs.Number.{number}
use Rattle.read_palette.specs.Pclr.{entry_bytes}

-- the values of a row, a column each, from the depths of the columns and the bytes that start with the row
unfoldable pub values : List ℕ → List ℕ → List ℕ
values [] c = []
values (b ∷ depths) c = number c 0 (entry_bytes b) ∷ values depths (drop (entry_bytes b) c)
