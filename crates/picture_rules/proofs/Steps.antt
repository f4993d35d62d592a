-- What one definition does to a position, and that `define` does so to every channel and, marks aside, to every record.
-- Assumes nothing.
use Prim.Native.Nat.{ℕ, ◌-◌, ◌+◌, ◌<◌}
use mathlib.Core.Path.{◌≡◌, refl, ap, sym, ◌∙◌, subst}
use mathlib.Core.Bool.{Bool, true, false}
use native.Mathlib.Omega.{arith}
use lib.Dec.{ltb}
use Rattle.box_number.specs.Table.{Test, ◌=?◌, ◌≠?◌, ◌<?◌, ◌or◌, ◌and◌, Rows, otherwise, ◌⇒◌∣◌, holds, pick, table}
use Rattle.box_number.proofs.Rows.{Says, either, said, shown, Reaches, entry, row, each}
use Rattle.read_channels.specs.Definitions.{Def}
use Rattle.picture_rules.specs.Definitions.{Colour}
use Rattle.picture_rules.specs.Edition.{marked_position}
use Rattle.picture_rules.specs.Order.{Arranged, exchange, swapped, marked, define}
use Rattle.picture_rules.proofs.Exchange

-- `define`, by the first of its rows whose test holds
abbrev pub rows : ℕ → ℕ → Def → ℕ → Arranged → Rows Arranged
rows edition2 n d p a =
    n <? p + 1 ⇒ a
    ∣ d.asoc =? 0 or d.asoc =? 65535 ⇒ marked p d.typ a
    ∣ n <? d.asoc ⇒ a
    ∣ d.typ =? 0 ⇒ marked (marked_position edition2 p (d.asoc - 1)) 0 (swapped p (d.asoc - 1) a)
    ∣ otherwise (marked p d.typ a)

pub by_row : (i edition2 n : ℕ) (d : Def) (p : ℕ) (a : Arranged) (P : Arranged → Type 0) → a.seat d.channel ≡ p → Reaches i (rows edition2 n d p a) → P (entry i (rows edition2 n d p a)) → P (define edition2 n d a)
unfolding define
by_row i edition2 n d p a P e r h = subst (λ x. P (table (rows edition2 n d x a))) (sym e) (subst P (row i (rows edition2 n d p a) r refl) h)

-- d and e define two channels, and give no colour number to both
abbrev pub Apart : Def → Def → Type 0
Apart d e = (d.channel ≡ e.channel → ⊥) × (Colour d → Colour e → d.asoc ≡ e.asoc → ⊥)

-- d's swap takes place where its channel is at position p
abbrev pub moves : ℕ → Def → ℕ → Test
moves n d p = p <? n and d.typ =? 0 and 0 <? d.asoc and d.asoc ≠? 65535 and d.asoc <? n + 1

-- the position that x becomes by d
unfoldable pub step : ℕ → Def → ℕ → ℕ → ℕ
step n d p x = pick (holds (moves n d p)) (exchange p (d.asoc - 1) x) x

pub moving : (n : ℕ) (d : Def) (p x : ℕ) → Says true (moves n d p) → step n d p x ≡ exchange p (d.asoc - 1) x
unfolding step
moving n d p x h = rw (shown true (moves n d p) h)

pub still : (n : ℕ) (d : Def) (p x : ℕ) → Says false (moves n d p) → step n d p x ≡ x
unfolding step
still n d p x h = rw (shown false (moves n d p) h)

-- what x becomes, by cases
pub steps : (P : ℕ → Type 0) (n : ℕ) (d : Def) (p x : ℕ) → (Says true (moves n d p) → P (exchange p (d.asoc - 1) x)) → P x → P (step n d p x)
unfolding step
steps P n d p x f g = either (holds (moves n d p)) (λ e. rw e (f (said true (moves n d p) e))) (λ e. rw e g)

-- twice is not at all
pub undone : (n : ℕ) (d : Def) (p x : ℕ) → step n d p (step n d p x) ≡ x
unfolding step
undone n d p x = either (holds (moves n d p)) (λ e. rw e (Exchange.back p (d.asoc - 1) x)) (λ e. rw e)

-- positions below n stay below n
pub within : (n : ℕ) (d : Def) (p x : ℕ) → ltb (step n d p x) n ≡ ltb x n
within n d p x = steps (λ y. ltb y n ≡ ltb x n) n d p x (λ h. Exchange.within n p (d.asoc - 1) x h.0 (omega arith)) refl

-- two definitions that are apart, in either order; moves that are none stay none, since positions below n stay below n
turns : (b c : Bool) (p t q u x : ℕ) → (p ≡ q → ⊥) → (b ≡ true → c ≡ true → t ≡ u → ⊥) → pick c (exchange (pick b (exchange p t q) q) u (pick b (exchange p t x) x)) (pick b (exchange p t x) x) ≡ pick b (exchange (pick c (exchange q u p) p) t (pick c (exchange q u x) x)) (pick c (exchange q u x) x)
turns true true p t q u x a f = Exchange.commute p t q u x a (f refl refl)
turns true false p t q u x a f = refl
turns false true p t q u x a f = refl
turns false false p t q u x a f = refl

pub commute : (n : ℕ) (d e : Def) (p q x : ℕ) → n < 65536 → (p ≡ q → ⊥) → Apart d e → step n e (step n d p q) (step n d p x) ≡ step n d (step n e q p) (step n e q x)
unfolding step
commute n d e p q x few a w =
    rw (within n d p q, within n e q p)
    (turns (holds (moves n d p)) (holds (moves n e q)) p (d.asoc - 1) q (e.asoc - 1) x a
    (λ g h i. let k = said true (moves n d p) g in let l = said true (moves n e q) h in
    w.1 (k.1.0, omega arith, omega arith) (l.1.0, omega arith, omega arith) (omega arith)))

-- b is a once d is done, marks aside
pub record Follows (n : ℕ) (d : Def) (a b : Arranged) : Type 0 where
  pub seats : (c : ℕ) → b.seat c ≡ step n d (a.seat d.channel) (a.seat c)
  pub stands : (r k : ℕ) → k < 12 → b.records r k ≡ a.records (step n d (a.seat d.channel) r) k

kept : (n : ℕ) (d : Def) (a : Arranged) → Says false (moves n d (a.seat d.channel)) → Follows n d a a
kept n d a h =
    let p = a.seat d.channel in
    record { seats = λ c. sym (still n d p (a.seat c) h); stands = λ r k l. ap (λ x. a.records x k) (sym (still n d p r h)) }

turned : (n : ℕ) (d : Def) (a : Arranged) → Says true (moves n d (a.seat d.channel)) → Follows n d a (swapped (a.seat d.channel) (d.asoc - 1) a)
turned n d a h =
    let p = a.seat d.channel in
    record { seats = λ c. sym (moving n d p (a.seat c) h); stands = λ r k l. ap (λ x. a.records x k) (sym (moving n d p r h)) }

aside : (n : ℕ) (d : Def) (a b : Arranged) (p typ : ℕ) → Follows n d a b → Follows n d a (marked p typ b)
aside n d a b p typ f =
    record {
      seats = f.seats;
      stands = λ r k l. sym (row 1 (r =? p and k =? 12 ⇒ typ ∣ otherwise (b.records r k)) ((λ e. omega arith), tt) refl) ∙ f.stands r k l;
    }

pub follows : (edition2 n : ℕ) (d : Def) (a : Arranged) → Follows n d a (define edition2 n d a)
unfolding define
follows edition2 n d a =
    let p = a.seat d.channel in
    each (Follows n d a) (rows edition2 n d p a) (
      (λ h. kept n d a (λ i _ _ _. omega arith)),
      λ i. (
        (λ h. aside n d a a p d.typ (kept n d a (λ _ _ j k. absurd (k (h (omega arith)))))),
        λ j. (
          (λ h. kept n d a (λ _ _ _ _. omega arith)),
          λ h. (
            (λ t. aside n d a _ (marked_position edition2 p (d.asoc - 1)) 0 (turned n d a (omega arith, (t, (omega arith, (j.1, omega arith)))))),
            (λ t. aside n d a a p d.typ (kept n d a (λ _ u. absurd (t u)))),
          ),
        ),
      ),
    )
