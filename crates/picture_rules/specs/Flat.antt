-- Records of thirteen numbers in one list.
use Rattle.std.specs.Prelude.{ℕ, zero, suc, ◌/◌, ◌%◌, List, [], ◌∷◌, ◌++◌}
use Rattle.read_record.specs.Component.{numbers_each}

-- the first n numbers of the records, one record after the other
unfoldable pub flat : (ℕ → ℕ → ℕ) → ℕ → List ℕ
flat records zero = []
flat records (suc n) = flat records n ++ (records (n / numbers_each) (n % numbers_each) ∷ [])
