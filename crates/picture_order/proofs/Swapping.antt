-- A list of which two elements are exchanged, and records of thirteen numbers exchanged number by number.
-- Assumes nothing.
use Prim.Native.Nat.{ℕ, ◌+◌, ◌*◌, ◌≤◌, ◌<◌}
use mathlib.Core.Path.{◌≡◌, refl, ap, sym, ◌∙◌}
use mathlib.Core.List.{List}
use native.Mathlib.Omega.{arith}
use native.Mathlib.Decide.{ℕ_discrete}
use lib.ListN.{length, get_or}
use Rattle.std.specs.List.{swap}
use Rattle.std.proofs.lemmas.List.Edits.{length-swap, swapped_from_swap}
use Rattle.picture_rules.specs.Order.{exchange}
use Rattle.picture_order.specs.Flat.{number_at}
use Rattle.picture_order.specs.Private.Steps.{Exchanged}
use Rattle.picture_rules.proofs.Exchange

pub get_or-swap : {A : Type 0} (none : A) (l : List A) (a b i : ℕ) → a < length l → b < length l → get_or (swap l a b) i none ≡ get_or l (exchange a b i) none
get_or-swap none l a b i ha hb =
    let h = swapped_from_swap l (swap l a b) a b none ha hb refl in
    Exchange.cases (λ x. get_or (swap l a b) i none ≡ get_or l x none) a b i (λ e. ap (λ x. get_or (swap l a b) x none) e ∙ h.0)
    (λ e. ap (λ x. get_or (swap l a b) x none) e ∙ h.1)
    (h.2 i)

-- number k of two records exchanged: number k of a record is that of the exchanged one, and any other number stays
spot : (p q k r : ℕ) → exchange (13 * p + k) (13 * q + k) (13 * r + k) ≡ 13 * exchange p q r + k
spot p q k r =
    Exchange.cases (λ x. exchange (13 * p + k) (13 * q + k) (13 * r + k) ≡ 13 * x + k) p q r
    (λ e. Exchange.first _ _ _ (ap (λ x. 13 * x + k) e))
    (λ e. Exchange.second _ _ _ (ap (λ x. 13 * x + k) e))
    (λ e f. Exchange.other _ _ _ (λ g. e (omega arith)) (λ g. f (omega arith)))

off : (p q k r j : ℕ) → k < 13 → j < 13 → (j ≡ k → ⊥) → exchange (13 * p + k) (13 * q + k) (13 * r + j) ≡ 13 * r + j
off p q k r j hk hj e = Exchange.other (13 * p + k) (13 * q + k) (13 * r + j) (omega arith) (omega arith)

-- a record that changes places with itself
pub exchanged_self : (p q : ℕ) (l : List ℕ) → p ≡ q → Exchanged p q l l
exchanged_self p q l e = λ r k h. ap (λ i. number_at l i k) (sym (ap (λ x. exchange p x r) (sym e) ∙ Exchange.none p r))

-- the first k numbers of the records p and q of l are exchanged in m
pub record Partly (p q : ℕ) (l : List ℕ) (k : ℕ) (m : List ℕ) : Type 0 where
  pub size : length m ≡ length l
  pub past : (r j : ℕ) → j < k → j < 13 → number_at m r j ≡ number_at l (exchange p q r) j
  pub left : (r j : ℕ) → k ≤ j → j < 13 → number_at m r j ≡ number_at l r j

pub partly_more : (p q : ℕ) (l : List ℕ) (k : ℕ) (m : List ℕ) → k < 13 → 13 * p + 13 ≤ length l → 13 * q + 13 ≤ length l → Partly p q l k m → Partly p q l (k + 1) (swap m (13 * p + k) (13 * q + k))
partly_more p q l k m hk hp hq w = record {
  size = length-swap m _ _ ∙ w.size;
  past = λ r j h i. moved r j ∙ go r j h i (ℕ_discrete j k);
  left = λ r j h i. moved r j ∙ ap (λ x. get_or m x 0) (off p q k r j hk i (omega arith)) ∙ w.left r j (omega arith) i;
}
  where
    moved : (r j : ℕ) → number_at (swap m (13 * p + k) (13 * q + k)) r j ≡ get_or m (exchange (13 * p + k) (13 * q + k) (13 * r + j)) 0
    moved r j = get_or-swap 0 m _ _ (13 * r + j) (omega (arith, w.size)) (omega (arith, w.size))

    go : (r j : ℕ) → j < k + 1 → j < 13 → Dec (j ≡ k) → get_or m (exchange (13 * p + k) (13 * q + k) (13 * r + j)) 0 ≡ number_at l (exchange p q r) j
    go r j h i (yes e) = rw (e, spot p q k r) (w.left (exchange p q r) k (omega arith) hk)
    go r j h i (no e) = ap (λ x. get_or m x 0) (off p q k r j hk i e) ∙ w.past r j (omega arith) i
