-- The lowest index that passes a test: it passes, or no index does; and the laws of every loop that looks for it.
-- Assumes nothing.
use Prim.Native.Nat.{ℕ, zero, suc, ◌≤◌, ◌<◌}
use mathlib.Core.Path.{◌≡◌, refl, sym, subst, ◌∙◌}
use mathlib.Core.Bool.{true, false}
use native.Mathlib.Nat.{eq-or-lt_of_le, le_of_suc-le-suc}
use native.Mathlib.Omega.{arith}
use mathlib.Core.Logic.{⊎_elim}
use Rattle.box_number.specs.Table.{Test, ◌=?◌, otherwise, ◌⇒◌∣◌, holds, table}
use Rattle.box_number.proofs.Rows.{Says, each, row}
use Rattle.box_number.specs.Lowest.{lowest}

-- a test holds or fails
pub decide : {X : Type 0} (t : Test) → (Says true t → X) → (Says false t → X) → X
decide {X} t where-true where-false = each (λ (_ : ℕ). X) (t ⇒ 0 ∣ otherwise 0) (where-true, where-false)

-- an index below suc n is n or below n
pub last_or : {X : Type 0} (n i : ℕ) → i < suc n → (i ≡ n → X) → (i < n → X) → X
last_or n i h last below = decide (i =? n) last (λ z. below (omega arith))

module _ (t : ℕ → Test) where
  pub lowest-most : (n : ℕ) → lowest t n ≤ n
  unfolding lowest
  lowest-most zero = omega arith
  lowest-most (suc n) = each (λ m. m ≤ suc n) _ ((λ h. omega arith), λ h. ((λ _. omega arith), λ _. omega arith))

  -- where it is below n, it passes
  pub lowest-passes : (n : ℕ) → lowest t n < n → Says true (t (lowest t n))
  unfolding lowest
  lowest-passes zero l = absurd (omega arith)
  lowest-passes (suc n) l = each (λ m. m < suc n → Says true (t m)) _ ((λ h _. lowest-passes n h), λ _. ((λ h _. h), λ _ l. absurd (omega arith))) l

  -- where it is not, none passes
  pub lowest-none : (n : ℕ) → n ≤ lowest t n → (i : ℕ) → i < n → Says false (t i)
  unfolding lowest
  lowest-none zero l i h = absurd (omega arith)
  lowest-none (suc n) l i h =
      each (λ m. suc n ≤ m → Says false (t i)) _ (
        (λ b c. absurd (omega arith)),
        λ b. (
          (λ _ c. absurd (omega arith)),
          λ f _.
              last_or n i h (λ e. subst (λ j. Says false (t j)) (sym e) f) (lowest-none n b i),
        ),
      ) l

  -- and where none passes, it is not
  pub none_is : (n : ℕ) → ((i : ℕ) → i < n → Says false (t i)) → n ≡ lowest t n
  unfolding lowest
  none_is zero f = refl
  none_is (suc n) f = row 2 _ (omega (arith, none_is n (λ i h. f i (omega arith))), (f n (omega arith), tt)) refl

  pub none-lowest : (n : ℕ) → ((i : ℕ) → i < n → Says false (t i)) → n ≤ lowest t n
  none-lowest n f = omega (arith, none_is n f)

  lowest-last : (n : ℕ) → ((i : ℕ) → i < n → Says false (t i)) → Says true (t n) → n ≡ lowest t (suc n)
  unfolding lowest
  lowest-last n h p = let e = none_is n h in row 1 _ (omega arith, p) refl

  -- it is j where j passes and no index below j does
  pub lowest-first : (j n : ℕ) → ((i : ℕ) → i < j → Says false (t i)) → Says true (t j) → j < n → j ≡ lowest t n
  unfolding lowest
  lowest-first j zero h p l = absurd (omega arith)
  lowest-first j (suc n) h p l =
      ⊎_elim (λ e. e ∙ lowest-last n (λ i b. h i (omega arith)) (subst (λ (m : ℕ). Says true (t m)) e p))
      (λ b. let e = lowest-first j n h p b in row 0 _ (omega arith) e)
      (eq-or-lt_of_le (le_of_suc-le-suc l))

  -- no index below it passes
  pub lowest-past : (n i : ℕ) → i < lowest t n → Says false (t i)
  unfolding lowest
  lowest-past zero i l = absurd (omega arith)
  lowest-past (suc n) i l =
      each (λ (x : ℕ). i < x → Says false (t i)) _ (
        (λ h. λ b. lowest-past n i b),
        λ h. (
          (λ p. λ b. lowest-past n i (omega arith)),
          λ p. λ b. ⊎_elim (λ e. subst (λ (m : ℕ). Says false (t m)) (sym e) p) (λ d. lowest-past n i (omega arith)) (eq-or-lt_of_le (le_of_suc-le-suc b)),
        ),
      )
      l

-- tests that agree below n have the same lowest index
pub lowest-same : (s t : ℕ → Test) (n : ℕ) → ((i : ℕ) → i < n → holds (s i) ≡ holds (t i)) → lowest s n ≡ lowest t n
unfolding lowest table
lowest-same s t zero h = refl
lowest-same s t (suc n) h = let e = lowest-same s t n (λ i l. h i (omega arith)) in let d = h n (omega arith) in rw (e, d)
