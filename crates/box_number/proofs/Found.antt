-- The lowest index that was found: what a search over a range gives is what the definition says.
-- Assumes nothing.
use Rattle.std.proofs.Common.{ℕ, ◌+◌, ◌-◌, ◌≤◌, ◌<◌, ◌≡◌, Bool, true, false, Option, Some, None, length, refl, sym, ap, subst, ◌∙◌, arith}
use Rattle.std.specs.Bool.{MatchBool}
use Rattle.std.specs.Option.{MatchOption}
use Rattle.std.specs.List.{range_with_len, HoldsAt, AllWithin}
use Rattle.std.proofs.lemmas.List.FromFn.{length-range_with_len, get_or-range_with_len}
use Rattle.box_number.specs.Table.{Test, ◌<?◌, holds, table}
use Rattle.box_number.specs.Lowest.{lowest, some, found}
use Rattle.box_number.proofs.Rows.{Says, row, each, not_both}
use Rattle.box_number.proofs.Answers.{said, shown}
use Rattle.box_number.proofs.Indices.{decide, none_is, none-lowest, lowest-first, lowest-none, lowest-same}

-- a search asks a test u from start up to n; there it is as t, of which none holds below start
module _ (u t : ℕ → Test) (start n : ℕ) (before : (k : ℕ) → k < start → Says false (t k)) (as-t : (k : ℕ) → start ≤ k → k < n → holds (u k) ≡ holds (t k)) where
  passes : (k : ℕ) → start ≤ k → k < n → true ≡ holds (u k) → Says true (t k)
  passes k from l e = said true (t k) (e ∙ as-t k from l)

  fails : (m : ℕ) → m ≤ n → ((k : ℕ) → start ≤ k → k < m → false ≡ holds (u k)) → (k : ℕ) → k < m → Says false (t k)
  fails m most f k l = decide (k <? start) (before k) (λ from. said false (t k) (f k from l ∙ as-t k from (omega arith)))

  -- the lowest index that passes
  pub found-is :
      (r : Option ℕ) →
      MatchOption r ((k : ℕ) → start ≤ k → k < n → false ≡ holds (u k)) (λ i. (start ≤ i) × (i < n) × (true ≡ holds (u i)) × ((k : ℕ) → start ≤ k → k < i → false ≡ holds (u k))) →
      r ≡ found t n
  found-is None f = row 1 _ (omega (arith, none_is t n (fails n (omega arith) f)), tt) refl
  found-is (Some i) (from, below, here, past) =
      let e = lowest-first t i n (fails i (omega arith) past) (passes i from below here) below in
      row 0 _ (omega arith) (ap Some e)

  -- whether one passes
  pub some-is :
      (r : Bool) →
      MatchBool r
      ((k : ℕ) × (k < length (range_with_len start (n - start))) × HoldsAt (λ i. true ≡ holds (u i)) (range_with_len start (n - start)) k)
      (AllWithin (λ i. false ≡ holds (u i)) (range_with_len start (n - start)) 0 (length (range_with_len start (n - start)))) →
      r ≡ holds (some t n)
  some-is true (k, inside, here) =
      let l : k < n - start = omega (arith, length-range_with_len start (n - start)) in
      let h : true ≡ holds (u (start + k)) = subst (λ i. true ≡ holds (u i)) (get_or-range_with_len start (n - start) k 0 l) (here 0) in
      shown true (some t n)
      (decide (some t n) (λ y. y) (λ z. absurd (not_both (t (start + k)) (passes (start + k) (omega arith) (omega arith) h) (lowest-none t n z (start + k) (omega arith)))))
  some-is false past =
      shown false (some t n)
      (none-lowest t n
      (fails n (omega arith)
      (λ k from l.
      let b : k - start < n - start = omega arith in
      let e : start + (k - start) ≡ k = omega arith in
      subst (λ i. false ≡ holds (u i)) (get_or-range_with_len start (n - start) (k - start) 0 b ∙ e) (past (k - start) 0 (omega arith) (omega (arith, length-range_with_len start (n - start)))))))

-- an index that is found is below the number of tests
pub found-below : (t : ℕ → Test) (n : ℕ) {r : Option ℕ} {i : ℕ} → r ≡ found t n → r ≡ Some i → (i < n) × (i ≡ lowest t n)
found-below t n {r} {i} e d =
    each (λ (o : Option ℕ). r ≡ o → (i < n) × (i ≡ lowest t n)) _ (
      (λ l z. let q : i ≡ lowest t n = cc in (omega arith, q)),
      λ l z. absurd (some-none (sym d ∙ z)),
    ) e
  where
    some-none : Some i ≡ None → ⊥
    some-none z = cc

-- and where none is found, no test holds
pub found-none : (t : ℕ → Test) (n : ℕ) {r : Option ℕ} → r ≡ found t n → ((i : ℕ) → r ≡ Some i → ⊥) → n ≤ lowest t n
found-none t n {r} e d =
    each (λ (o : Option ℕ). r ≡ o → n ≤ lowest t n) _ (
      (λ l z. absurd (d (lowest t n) z)),
      λ l z. l,
    ) e

-- tests that agree below n have the same
pub found-same : (s t : ℕ → Test) (n : ℕ) → ((i : ℕ) → i < n → holds (s i) ≡ holds (t i)) → found s n ≡ found t n
unfolding table
found-same s t n h = let e = lowest-same s t n h in rw e refl
