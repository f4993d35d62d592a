-- The lowest index that passes a test.
use Rattle.std.specs.Prelude.{ℕ, zero, suc, Option, Some, None}
use Rattle.box_number.specs.Table.{Test, ◌<?◌, otherwise, ◌⇒◌∣◌, table}

-- the lowest index below n for which a test holds; n where it holds for none
unfoldable pub lowest : (ℕ → Test) → ℕ → ℕ
lowest t zero = 0
lowest t (suc n) = table (lowest t n <? n ⇒ lowest t n ∣ t n ⇒ n ∣ otherwise (suc n))

-- some index below n passes the test
abbrev pub some : (ℕ → Test) → ℕ → Test
some t n = lowest t n <? n

-- the same index, or none
abbrev pub found : (ℕ → Test) → ℕ → Option ℕ
found t n = table (some t n ⇒ Some (lowest t n) ∣ otherwise None)
