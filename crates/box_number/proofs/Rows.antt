-- The two laws of tables: `row` for the code, one line for each return, and `each` for what holds of every answer.
-- Assumes nothing.
use Prim.Native.Nat.{ℕ, zero, suc}
use mathlib.Core.Path.{◌≡◌, refl}
use mathlib.Core.Bool.{Bool, true, false}
use native.Mathlib.Omega.{arith}
use lib.Dec.{eqb}
use borrow.Author.Tests.{eqb-true, eqb-false, ltb-true, ltb-false, not-true, not-false}
use Rattle.box_number.specs.Table.{Test, ◌=?◌, ◌≠?◌, ◌<?◌, flag, ◌or◌, ◌and◌, Rows, otherwise, ◌⇒◌∣◌, holds, table}
pub use Rattle.box_number.specs.Table.{Says}

pub true_false : {X : Type 0} → true ≡ false → X
true_false e = let z : ◌≡◌ {A = ℕ} 0 1 = cc in absurd (omega arith)

-- a test does not both hold and fail
pub not_both : (t : Test) → Says true t → Says false t → ⊥
not_both (m =? n) h f = f h
not_both (m ≠? n) h f = h f
not_both (m <? n) h f = omega arith
not_both (flag b) h f = true_false (cc)
not_both (s or t) h f = not_both t (h f.0) f.1
not_both (s and t) h f = not_both t h.1 (f h.0)

-- the first of two tests suffices
pub or_first : (s t : Test) → Says true s → Says true (s or t)
or_first s t h = λ g. absurd (not_both s h g)

pub either : {X : Type 0} (b : Bool) → (b ≡ true → X) → (b ≡ false → X) → X
either true f g = f refl
either false f g = g refl

pub said : (b : Bool) (t : Test) → holds t ≡ b → Says b t
said true (m =? n) e = eqb-true m n e
said false (m =? n) e = eqb-false m n e
said true (m ≠? n) e = eqb-false m n (not-true (eqb m n) e)
said false (m ≠? n) e = eqb-true m n (not-false (eqb m n) e)
said true (m <? n) e = ltb-true m n e
said false (m <? n) e = ltb-false m n e
said true (flag b) e = e
said false (flag b) e = e
said true (s or t) e = λ f. either (holds s) (λ h. absurd (not_both s (said true s h) f)) (λ h. said true t (rw h at e))
said false (s or t) e = either (holds s) (λ h. true_false (rw h at e)) (λ h. (said false s h, said false t (rw h at e)))
said true (s and t) e = either (holds s) (λ h. (said true s h, said true t (rw h at e))) (λ h. true_false (cc))
said false (s and t) e = λ f. either (holds s) (λ h. said false t (rw h at e)) (λ h. absurd (not_both s f (said false s h)))

pub shown : (b : Bool) (t : Test) → Says b t → holds t ≡ b
shown true t h = either (holds t) (λ e. e) (λ e. absurd (not_both t h (said false t e)))
shown false t h = either (holds t) (λ e. absurd (not_both t (said true t e) h)) (λ e. e)

-- row i is the first whose test holds
abbrev pub Reaches : {A : Type 0} → ℕ → Rows A → Type 0
Reaches i (otherwise a) = Unit
Reaches zero (t ⇒ a ∣ rows) = Says true t
Reaches (suc i) (t ⇒ a ∣ rows) = Says false t × Reaches i rows

abbrev pub entry : {A : Type 0} → ℕ → Rows A → A
entry i (otherwise a) = a
entry zero (t ⇒ a ∣ rows) = a
entry (suc i) (t ⇒ a ∣ rows) = entry i rows

pub row : {A : Type 0} (i : ℕ) (rows : Rows A) {x : A} → Reaches i rows → x ≡ entry i rows → x ≡ table rows
unfolding table
row i (otherwise a) r e = e
row zero (t ⇒ a ∣ rows) r e = rw (shown true t r) e
row (suc i) (t ⇒ a ∣ rows) r e = rw (shown false t r.0) (row i rows r.1 e)

-- every row's answer has a property, where its test holds and those above it fail
abbrev pub Each : {A : Type 0} → (A → Type 0) → Rows A → Type 0
Each P (otherwise a) = P a
Each P (t ⇒ a ∣ rows) = (Says true t → P a) × (Says false t → Each P rows)

pub each : {A : Type 0} (P : A → Type 0) (rows : Rows A) → Each P rows → P (table rows)
unfolding table
each P (otherwise a) h = h
each P (t ⇒ a ∣ rows) h = either (holds t) (λ e. rw e (h.0 (said true t e))) (λ e. rw e (each P rows (h.1 (said false t e))))
