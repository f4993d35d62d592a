-- A file from a place on: its numbers, and the bytes of a palette's row, are those of the file.
-- Assumes nothing.
use Prim.Native.Nat.{ℕ, zero, suc, ◌+◌}
use native.Mathlib.Nat.{zero-add}
use native.Mathlib.Omega.{arith}
use mathlib.Core.Path.{◌≡◌, refl, ap, ◌∙◌}
use mathlib.Core.List.{List}
use lib.ListN.{length, drop}
use lib.Seq.{get_or-drop}
use Rattle.box_number.specs.Number.{number, part}
use Rattle.box_number.proofs.Numbers.{rest-is}
use Rattle.read_palette.specs.Pclr.{row_bytes}

module _ (f : List ℕ) (k : ℕ) where
  pub rest-drop : part f k (length f) ≡ drop k f
  unfolding part
  rest-drop = rest-is f k

  number-drop : (at n : ℕ) → number (drop k f) at n ≡ number f (k + at) n
  unfolding number
  number-drop at zero = refl
  number-drop at (suc n) =
      let e : k + (at + n) ≡ k + at + n = omega arith in
      rw (number-drop at n, get_or-drop, e)

  row_drop : (n : ℕ) → row_bytes (drop k f) 0 n ≡ row_bytes f k n
  unfolding row_bytes
  row_drop zero = refl
  row_drop (suc n) = rw (row_drop n, number-drop (0 + n) 1, zero-add n)

  pub rest-number : (at n : ℕ) → number (part f k (length f)) at n ≡ number f (k + at) n
  rest-number at n = ap (λ (s : List ℕ). number s at n) rest-drop ∙ number-drop at n

  pub rest-row : (n : ℕ) → row_bytes (part f k (length f)) 0 n ≡ row_bytes f k n
  rest-row n = ap (λ (s : List ℕ). row_bytes s 0 n) rest-drop ∙ row_drop n
