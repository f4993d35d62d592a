-- A difference that wraps at 2^32.
-- Assumes nothing.
use Rattle.std.proofs.Common.{◌≡◌, ℕ, ◌+◌, ◌-◌, ◌%◌, ◌≤◌, ap, arith}
use Rattle.write_rules.specs.Setup.{wrapping}

pub wraps_is : (a b : ℕ) → b ≤ 4294967295 → (a + (4294967296 - b)) % 4294967296 ≡ wrapping a b
unfolding wrapping
wraps_is a b l = ap (λ (n : ℕ). n % 4294967296) (omega arith)
