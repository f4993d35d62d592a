-- A number that grows by an amount a turn, from 0 on, is the sum of the amounts.
-- Assumes nothing.
use Rattle.std.proofs.Common.{ℕ, zero, suc, ◌+◌, ◌≡◌, List, [], ◌∷◌, ◌++◌, map, sum, ap, subst, sym, ◌∙◌, add-one, arith}
use Rattle.std.specs.List.{range_with_len}
use Rattle.std.proofs.lemmas.List.FromFn.{map-range_with_len_more}
use Rattle.std.proofs.lemmas.List.Sums.{sum_by_push}

module _ (grown amount : ℕ → ℕ) (start : grown 0 ≡ 0) (turn : (n : ℕ) → grown (suc n) ≡ grown n + amount n) where
  abbrev pub amounts : ℕ → List ℕ
  amounts n = map amount (range_with_len 0 n)

  pub sum-amounts : (n : ℕ) → sum (amounts n) ≡ grown n
  sum-amounts zero = sym start
  sum-amounts (suc n) =
      let d : amounts (n + 1) ≡ amounts n ++ amount n ∷ [] = map-range_with_len_more amount 0 n n (omega arith) in
      let s : sum (amounts (n + 1)) ≡ sum (amounts n) + amount n = ap sum d ∙ sum_by_push (λ x. x) (amounts n) (amount n) in
      subst (λ k. sum (amounts k) ≡ grown n + amount n) (add-one n) (s ∙ ap (λ x. x + amount n) (sum-amounts n)) ∙ sym (turn n)
