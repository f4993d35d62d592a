-- The entry of a column that a sample picks.
-- Assumes nothing.
use Rattle.std.proofs.Common.{◌≡◌, ℕ, ◌-◌, ◌≤◌, ◌<◌, List, [], ◌∷◌, pos, ℤ, refl, arith, min, map}
use Rattle.std.specs.Int.{int_max}
use Rattle.std.proofs.Math.IntN.{nat_abs}
use lib.IntN.{negsuc}
use Rattle.box_number.proofs.Rows.{each}
use Rattle.box_number.proofs.Numbers.{least-most}
use Rattle.picture_rules.specs.Samples.{floored, clamped}
use Rattle.picture_planes.specs.declared.Column.{Column}
use Rattle.picture_planes.specs.Column.{column, picked}
use Rattle.picture_planes.specs.Private.Entry.{entry_for}
use Rattle.picture_planes.proofs.Columns.{length-column, column-at}

-- a sample at least 0 and at most the last index
pub index_picked : (s : ℤ) (last : ℕ) → min (nat_abs (int_max s (pos 0))) last ≡ clamped s last
index_picked (pos n) last = each (λ i. min (nat_abs (int_max (pos n) (pos 0))) last ≡ i) _ ((λ l. grind arith), λ l. grind arith)
index_picked (negsuc n) last = each (λ i. min (nat_abs (int_max (negsuc n) (pos 0))) last ≡ i) _ ((λ l. grind arith), λ l. grind arith)

pub map_same : {g h : ℤ → ℤ} → ((s : ℤ) → g s ≡ h s) → (l : List ℤ) → map g l ≡ map h l
map_same e [] = refl
map_same e (s ∷ l) = cc (e s, map_same e l)

-- an entry of a column that is read is what the sample picks
pub looked : (s : List ℕ) (k : Column) → 0 < k.entries → (v : ℤ) → entry_for (column s k k.entries) v ≡ picked s k v
unfolding picked
looked s k h v =
    let m : clamped v (k.entries - 1) ≤ k.entries - 1 = least-most (floored v) (k.entries - 1) refl in
    rw (length-column s k k.entries) (column-at s k k.entries (clamped v (k.entries - 1)) (pos 0) (omega arith))
