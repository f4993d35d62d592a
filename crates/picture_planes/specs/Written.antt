-- Samples that are written to a place of a destination, or refused. The rest of the destination stays.
use Rattle.std.specs.Prelude.{ℕ, Bool, true, false, List, ℤ}
use Rattle.box_number.specs.Number.{placed}
use Rattle.box_number.specs.Table.{Test, otherwise, ◌⇒◌∣◌, table}

-- where a test refuses them: whether they are written, and the destination d afterwards
unfoldable pub is_written : Test → Bool
is_written refused = table (refused ⇒ false ∣ otherwise true)

unfoldable pub written_unless : Test → List ℤ → ℕ → List ℤ → List ℤ
written_unless refused d at xs = table (refused ⇒ d ∣ otherwise (placed d at xs))
