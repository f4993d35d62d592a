-- A column: its entries as they are read.
-- Assumes nothing.
use Rattle.std.proofs.Common.{◌≡◌, ℕ, zero, suc, ◌<◌, List, length, get_or, ℤ, refl, arith, length-append}
use Rattle.std.proofs.lemmas.List.{places}
use Rattle.std.proofs.lemmas.Int.{ints}
use mir.Syntax.{w32}
use mir.Val.{to_z}
use Rattle.box_number.proofs.Rows.{each}
use Rattle.picture_rules.specs.Samples.{displayed}
use Rattle.picture_planes.specs.declared.Column.{Column}
use Rattle.picture_planes.specs.Column.{entry_at, column}

-- a number of 32 bits as a signed one
pub cast_shown : (e : ℕ) → e < 4294967296 → to_z w32 e ≡ displayed e
unfolding displayed
cast_shown e h = each (λ z. to_z w32 e ≡ z) _ ((λ l. omega (arith, ints)), λ l. grind (arith, ints))

-- a column with the given numbers
abbrev pub column_of : ℕ → ℕ → ℕ → ℕ → Column
column_of place step wide entries = record { place = place; step = step; wide = wide; entries = entries }

module _ (s : List ℕ) (k : Column) where
  pub length-column : (n : ℕ) → length (column s k n) ≡ n
  unfolding column
  length-column zero = refl
  length-column (suc n) = let e = length-column n in simp length-append (omega arith)

  pub column-at : (n j : ℕ) (z : ℤ) → j < n → get_or (column s k n) j z ≡ entry_at s k j
  unfolding column
  column-at zero j z h = absurd (omega arith)
  column-at (suc n) j z h = let e = length-column n in let f = column-at n j z in grind (arith, places)
