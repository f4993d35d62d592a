-- The first index that passes a test, as `find` over a range gives it.
-- Assumes nothing.
use Rattle.std.proofs.Common.{◌≡◌, ℕ, ◌<◌, ◌≤◌, true, false, Option, Some, None, refl, sym, ap, ◌∙◌, arith}
use Rattle.std.specs.Option.{MatchOption}
use Rattle.box_number.specs.Table.{Test, ◌<?◌}
use Rattle.box_number.specs.Lowest.{lowest}
use Rattle.box_number.proofs.Rows.{Says, row}
use Rattle.box_number.proofs.Indices.{decide, none-lowest, lowest-first}
use Rattle.replay_picture.specs.Private.Compared.{first}

module _ (t : ℕ → Test) (n : ℕ) where
  pub first_found : (r : Option ℕ)
      → MatchOption r ((k : ℕ) → 0 ≤ k → k < n → Says false (t k)) (λ i. (0 ≤ i) × (i < n) × Says true (t i) × ((k : ℕ) → 0 ≤ k → k < i → Says false (t k)))
      → r ≡ first t n
  unfolding first
  first_found None h = row 1 _ (none-lowest t n (λ i l. h i (omega arith) l), tt) refl
  first_found (Some i) h =
      let e : i ≡ lowest t n = lowest-first t i n (λ k l. h.3 k (omega arith) l) h.2 h.1 in
      row 0 _ (omega (arith, h.1)) (ap (λ (k : ℕ). Some k) e)

  first-is : (r : Option ℕ) → r ≡ first t n → MatchOption r (n ≤ lowest t n) (λ k. lowest t n < n)
  unfolding first
  first-is r e =
      decide (lowest t n <? n)
      (λ l. let s : r ≡ Some (lowest t n) = e ∙ sym (row 0 _ l refl) in rw s l)
      (λ l. let s : r ≡ None = e ∙ sym (row 1 _ (l, tt) refl) in rw s l)

  pub first-some : (r : Option ℕ) (k : ℕ) → r ≡ first t n → r ≡ Some k → lowest t n < n
  first-some r k e f = let h = rw f at (first-is r e) in h

  pub first-none : (r : Option ℕ) → r ≡ first t n → r ≡ None → n ≤ lowest t n
  first-none r e f = let h = rw f at (first-is r e) in h
