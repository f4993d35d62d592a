-- Pieces of output that have two forms.
use Rattle.std.specs.Prelude.{ℕ, Bool, List}
use Rattle.box_number.specs.Table.{flag, otherwise, ◌⇒◌∣◌, table}
use Rattle.text.specs.Text.{line}

-- the form of a piece, which has a bar between the one for people and the one for JSON
unfoldable pub form : Bool → List ℕ → List ℕ
form json piece = line 0x7c (table (flag json ⇒ 1 ∣ otherwise 0)) piece
