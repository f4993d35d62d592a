-- How many bytes of a text are printed.
-- Assumes nothing.
use Rattle.std.proofs.Common.{◌≡◌, ℕ, List, length, take, sym, subst, zero-add}
use native.Mathlib.Numerals.{unary_clauses}
use Rattle.text.specs.Text.{after}
use Rattle.test_lines.specs.Lines.{most, printed}

pub line-printed : (d xs : List ℕ) {n : ℕ} → most ≡ length d → n ≡ after d 0 xs → n ≡ printed xs
unfolding after
line-printed d xs {n} l e = subst (λ m. n ≡ length (take m xs)) (sym l) (simp (unary_clauses, zero-add) at e)
