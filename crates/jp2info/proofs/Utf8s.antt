-- A character lies inside the text that it starts.
-- Assumes nothing.
use Prim.Native.Nat.{ℕ, ◌≤◌, ◌<◌}
use native.Mathlib.Omega.{arith}
use borrow.Author.Tests.{ltb-true, ltb-false}
use mathlib.Core.List.{List}
use lib.Dec.{ltb}
use lib.ListN.{length, get_or, get_or-eq_default}
use Rattle.box_number.proofs.Rows.{either, each}
use Rattle.jp2info.specs.Utf8.{within, pair, character}

-- a byte that is not 0 is there
there : (s : List ℕ) (i : ℕ) → 0 < get_or s i 0 → i < length s
there s i h = either (ltb i (length s)) (λ b. ltb-true _ _ b) (λ b. absurd (omega (arith, get_or-eq_default s 0 {n = i} (ltb-false _ _ b))))

pub character-fits : (s : List ℕ) → character s ≤ length s
unfolding character pair within
character-fits s =
    each (λ (n : ℕ). n ≤ length s) _ (
      (λ t. omega arith),
      λ f. (
        (λ t. omega arith),
        λ g. (
          (λ t. let a = there s 1 (omega arith) in omega arith),
          λ h. (
            (λ t. let a = there s 2 (omega arith) in omega arith),
            λ k. ((λ t. let a = there s 3 (omega arith) in omega arith), λ l. omega arith),
          ),
        ),
      ),
    )
