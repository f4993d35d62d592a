-- The laws of an exchange of two positions.
-- Assumes nothing.
use Prim.Native.Nat.{ℕ, ◌<◌}
use mathlib.Core.Path.{◌≡◌, refl, ap, sym, ◌∙◌}
use native.Mathlib.Decide.{ℕ_discrete}
use native.Mathlib.Omega.{arith}
use lib.Dec.{ltb}
use borrow.Author.Tests.{lt-ltb}
use Rattle.box_number.specs.Table.{◌=?◌, otherwise, ◌⇒◌∣◌}
use Rattle.box_number.proofs.Rows.{row, each}
use Rattle.picture_rules.specs.Order.{exchange}

-- what x becomes, by cases
pub cases : (P : ℕ → Type 0) (p q x : ℕ) → (x ≡ p → P q) → (x ≡ q → P p) → ((x ≡ p → ⊥) → (x ≡ q → ⊥) → P x) → P (exchange p q x)
unfolding exchange
cases P p q x f g h = each P (x =? p ⇒ q ∣ x =? q ⇒ p ∣ otherwise x) (f, λ a. (g, h a))

pub first : (p q x : ℕ) → x ≡ p → exchange p q x ≡ q
unfolding exchange
first p q x e = sym (row 0 (x =? p ⇒ q ∣ x =? q ⇒ p ∣ otherwise x) e refl)

pub second : (p q x : ℕ) → x ≡ q → exchange p q x ≡ p
second p q x e = cases (λ y. y ≡ p) p q x (λ a. sym e ∙ a) (λ b. refl) (λ a b. absurd (b e))

pub other : (p q x : ℕ) → (x ≡ p → ⊥) → (x ≡ q → ⊥) → exchange p q x ≡ x
other p q x a b = cases (λ y. y ≡ x) p q x (λ e. absurd (a e)) (λ e. absurd (b e)) (λ c d. refl)

-- twice is not at all
pub back : (p q x : ℕ) → exchange p q (exchange p q x) ≡ x
back p q x = cases (λ y. exchange p q y ≡ x) p q x (λ e. second p q q refl ∙ sym e) (λ e. first p q p refl ∙ sym e) (other p q x)

pub only : (p q x y : ℕ) → exchange p q x ≡ exchange p q y → x ≡ y
only p q x y e = sym (back p q x) ∙ ap (exchange p q) e ∙ back p q y

pub flip : (p q x : ℕ) → exchange p q x ≡ exchange q p x
flip p q x =
    cases (λ y. y ≡ exchange q p x) p q x (λ e. sym (second q p x e)) (λ e. sym (first q p x e)) (λ a b. sym (other q p x b a))

pub none : (p x : ℕ) → exchange p p x ≡ x
none p x = cases (λ y. y ≡ x) p p x sym sym (λ a b. refl)

-- an exchange after an exchange is that exchange, of what the other makes of its two positions, before it
pub across : (p q a b x : ℕ) → exchange (exchange p q a) (exchange p q b) (exchange p q x) ≡ exchange p q (exchange a b x)
across p q a b x =
    cases (λ y. exchange (exchange p q a) (exchange p q b) (exchange p q x) ≡ exchange p q y) a b x
    (λ e. first _ _ _ (ap (exchange p q) e))
    (λ e. second _ _ _ (ap (exchange p q) e))
    (λ f g. other _ _ _ (λ e. f (only p q x a e)) (λ e. g (only p q x b e)))

-- two exchanges in either order: p and t are where the first's channel is and is to be, q and u the second's
pub commute : (p t q u x : ℕ) → (p ≡ q → ⊥) → (t ≡ u → ⊥) → exchange (exchange p t q) u (exchange p t x) ≡ exchange (exchange q u p) t (exchange q u x)
commute p t q u x a b = go (ℕ_discrete q t) (ℕ_discrete p u)
  where
    go : Dec (q ≡ t) → Dec (p ≡ u) → exchange (exchange p t q) u (exchange p t x) ≡ exchange (exchange q u p) t (exchange q u x)
    go (no c) d = rw (other p t q (λ e. a (sym e)) c) (sym (rw (other q u t (λ e. c (sym e)) b) at (across q u p t x)))
    go (yes c) (no d) = rw (other q u p a d) (rw (other p t u (λ e. d (sym e)) (λ e. b (sym e))) at (across p t q u x))
    go (yes c) (yes d) = rw (c, ← d, second p t t refl, second t p p refl, none p, none t) (flip p t x)

-- positions below n stay below n
pub below : (n p q : ℕ) → p < n → q < n → (x : ℕ) → x < n → exchange p q x < n
below n p q hp hq x h = cases (λ y. y < n) p q x (λ e. hq) (λ e. hp) (λ a b. h)

-- and no others come there
pub within : (n p q x : ℕ) → p < n → q < n → ltb (exchange p q x) n ≡ ltb x n
within n p q x hp hq =
    cases (λ y. ltb y n ≡ ltb x n) p q x
    (λ e. lt-ltb q n hq ∙ sym (lt-ltb x n (omega arith)))
    (λ e. lt-ltb p n hp ∙ sym (lt-ltb x n (omega arith)))
    (λ a b. refl)
