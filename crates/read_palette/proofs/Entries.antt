-- The bytes of an entry and of a row.
-- Assumes nothing.
use Prim.Native.Nat.{ℕ, zero, suc, ◌+◌, ◌*◌, ◌≤◌}
use native.Mathlib.Nat.{mul-le-mul, le_trans}
use native.Mathlib.Numerals.{add-one}
use native.Mathlib.Omega.{arith}
use mathlib.Core.Path.{◌≡◌, refl}
use mathlib.Core.List.{List, map}
use Rattle.std.proofs.Common.{sum}
use Rattle.std.specs.List.{range_with_len}
use Rattle.box_number.specs.Number.{number}
use Rattle.box_number.proofs.Rows.{each}
use Rattle.box_number.proofs.Sums.{sum-amounts}
use Rattle.read_palette.specs.Pclr.{NE, NPC, entry_bytes, row_bytes}

pub entry-most : (b : ℕ) → entry_bytes b ≤ 4
unfolding entry_bytes
entry-most b = each (λ n. n ≤ 4) _ ((λ h. omega arith), λ h. omega arith)

-- one column more
pub row_next : (s : List ℕ) (at n : ℕ) {sum b : ℕ} → sum ≡ row_bytes s at n → b ≡ entry_bytes (number s (at + n) 1) → sum + b ≡ row_bytes s at (n + 1)
unfolding row_bytes
row_next s at n {sum} {b} e f = rw (add-one n) (omega arith)

-- the columns' bytes, one after the other
pub row-sum : (s : List ℕ) (at n : ℕ) → sum (map (λ i. entry_bytes (number s (at + i) 1)) (range_with_len 0 n)) ≡ row_bytes s at n
unfolding row_bytes
row-sum s at = sum-amounts (row_bytes s at) (λ i. entry_bytes (number s (at + i) 1)) refl (λ n. refl)

pub row-most : (s : List ℕ) (at n : ℕ) → row_bytes s at n ≤ 4 * n
unfolding row_bytes
row-most s at zero = omega arith
row-most s at (suc n) = omega (arith, row-most s at n, entry-most (number s (at + n) 1))

-- a row of at most 255 columns, as often as a palette has entries
pub rows-most : (s : List ℕ) (at n entries : ℕ) {row : ℕ} → n ≤ 255 → entries ≤ 1024 → row ≡ row_bytes s at n → entries * row ≤ 1044480
rows-most s at n entries {row} h k e = le_trans (mul-le-mul {m₂ = 1020} k (omega (arith, row-most s at n))) (omega arith)

-- the bytes of all entries of a palette box
pub rows_same : (c : List ℕ) {entries columns row : ℕ} → entries ≡ NE c → columns ≡ NPC c → row ≡ row_bytes c 3 columns → entries * row ≡ NE c * row_bytes c 3 (NPC c)
rows_same c e f g = cc
