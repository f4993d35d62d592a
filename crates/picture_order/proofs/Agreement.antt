-- What a mark and an exchange of two records do to lists that say what an arrangement says.
-- Assumes nothing.
use Prim.Native.Nat.{ℕ, ◌+◌, ◌*◌, ◌≤◌, ◌<◌}
use mathlib.Core.Path.{◌≡◌, refl, ap, sym, ◌∙◌}
use mathlib.Core.List.{List}
use native.Mathlib.Omega.{arith}
use native.Mathlib.Decide.{ℕ_discrete}
use lib.ListN.{length, get_or, set, length-set}
use lib.Seq.{get_or-set_same, get_or-set_other}
use Rattle.std.proofs.lemmas.List.Edits.{swap_is}
use Rattle.box_number.specs.Table.{◌=?◌, ◌and◌, otherwise, ◌⇒◌∣◌, table}
use Rattle.box_number.proofs.Rows.{each}
use Rattle.picture_rules.specs.Order.{Arranged, exchange, swapped, marked}
use Rattle.picture_order.specs.Flat.{number_at}
use Rattle.picture_order.specs.Private.Positions.{Positioned}
use Rattle.picture_order.specs.Private.Steps.{Exchanged, Agree}
use Rattle.picture_rules.proofs.Exchange
use Rattle.picture_order.proofs.Swapping.{get_or-swap}

-- at the start every channel is at its own number
pub agree-start : (n : ℕ) (recs positions : List ℕ) → ((c : ℕ) → c < n → get_or positions c 0 ≡ c) → Agree n recs positions (record { seat = λ c. c; records = number_at recs })
agree-start n recs positions e = record { located = λ c h. sym (e c h); past = λ c h. h; says = λ r k l. refl }

-- a mark
mark-at : (l : List ℕ) (p t r k : ℕ) → 13 * p + 13 ≤ length l → k < 13 → table (r =? p and k =? 12 ⇒ t ∣ otherwise (number_at l r k)) ≡ number_at (set l (13 * p + 12) t) r k
mark-at l p t r k room hk =
    each (λ x. x ≡ number_at (set l (13 * p + 12) t) r k) (r =? p and k =? 12 ⇒ t ∣ otherwise (number_at l r k)) (
      (λ h. rw (h.0, h.1) (sym (get_or-set_same l (13 * p + 12) t 0 (omega arith)))),
      (λ h. sym (get_or-set_other l (13 * p + 12) (13 * r + k) t 0 (λ e. h (omega arith) (omega arith)))),
    )

pub agree-mark : (n : ℕ) (recs positions : List ℕ) (a : Arranged) (p t : ℕ) → 13 * p + 13 ≤ length recs → Agree n recs positions a → Agree n (set recs (13 * p + 12) t) positions (marked p t a)
agree-mark n recs positions a p t room g = record {
  located = g.located;
  past = g.past;
  says = λ r k l. ap (λ x. table (r =? p and k =? 12 ⇒ t ∣ otherwise x)) (g.says r k l) ∙ mark-at recs p t r k room l;
}

-- records that change places with themselves
pub agree_same : (n : ℕ) (recs positions recs' : List ℕ) (p : ℕ) (a : Arranged) → Exchanged p p recs recs' → Agree n recs positions a → Agree n recs' positions a
agree_same n recs positions recs' p a x g = record {
  located = g.located;
  past = g.past;
  says = λ r k l. g.says r k l ∙ ap (λ i. number_at recs i k) (sym (Exchange.none p r)) ∙ sym (x r k l);
}

-- channel c, at position p, changes places with the channel at position q
module _ (n : ℕ) (positions channels : List ℕ) (w : Positioned n positions channels) (c p q : ℕ) (hc : c < n) (sc : get_or positions c 0 ≡ p) (hq : q < n) where
  hp : p < n
  hp = rw sc at (w.positions-below c hc)

  located-swap : (x : ℕ) → x < n → get_or (set (set positions c q) (get_or channels q 0) p) x 0 ≡ exchange p q (get_or positions x 0)
  located-swap x hx = go (ℕ_discrete x (get_or channels q 0)) (ℕ_discrete x c)
    where
      go : Dec (x ≡ get_or channels q 0) → Dec (x ≡ c) → get_or (set (set positions c q) (get_or channels q 0) p) x 0 ≡ exchange p q (get_or positions x 0)
      go (yes u) v =
          ap (λ y. get_or (set (set positions c q) (get_or channels q 0) p) y 0) u
          ∙ get_or-set_same (set positions c q) (get_or channels q 0) p 0 (rw length-set (omega (arith, w.positions-room, w.channels-below q hq)))
          ∙ sym (Exchange.second p q (get_or positions x 0) (ap (λ y. get_or positions y 0) u ∙ w.here q hq))
      go (no u) (yes v) =
          get_or-set_other (set positions c q) (get_or channels q 0) x p 0 u ∙ ap (λ y. get_or (set positions c q) y 0) v ∙ get_or-set_same positions c q 0 (omega (arith, w.positions-room))
          ∙ sym (Exchange.first p q (get_or positions x 0) (ap (λ y. get_or positions y 0) v ∙ sc))
      go (no u) (no v) =
          get_or-set_other (set positions c q) (get_or channels q 0) x p 0 u ∙ get_or-set_other positions c x q 0 v
          ∙ sym (Exchange.other p q (get_or positions x 0)
          (λ e. v (sym (w.there x hx) ∙ ap (λ y. get_or channels y 0) (e ∙ sym sc) ∙ w.there c hc))
          (λ e. u (sym (w.there x hx) ∙ ap (λ y. get_or channels y 0) e)))

  channels-swap : (y : ℕ) → get_or (set (set channels q c) p (get_or channels q 0)) y 0 ≡ get_or channels (exchange p q y) 0
  channels-swap y =
      ap (λ x. get_or (set (set channels q x) p (get_or channels q 0)) y 0) (sym (w.there c hc) ∙ ap (λ x. get_or channels x 0) sc)
      ∙ rw (swap_is channels q p 0 (omega (arith, w.channels-room)) (omega (arith, hp, w.channels-room))) (get_or-swap 0 channels q p y (omega (arith, w.channels-room)) (omega (arith, hp, w.channels-room))) ∙ ap (λ x. get_or channels x 0) (Exchange.flip q p y)

  pub positioned-swap : Positioned n (set (set positions c q) (get_or channels q 0) p) (set (set channels q c) p (get_or channels q 0))
  positioned-swap = record {
    few = w.few;
    positions-room = simp length-set w.positions-room;
    channels-room = simp length-set w.channels-room;
    positions-below = λ x h. rw (located-swap x h) (Exchange.below n p q hp hq _ (w.positions-below x h));
    channels-below = λ y h. rw (channels-swap y) (w.channels-below _ (Exchange.below n p q hp hq y h));
    there = λ x h. rw (located-swap x h) (channels-swap _ ∙ ap (λ y. get_or channels y 0) (Exchange.back p q _) ∙ w.there x h);
    here = λ y h. rw (channels-swap y) (located-swap _ (w.channels-below _ (Exchange.below n p q hp hq y h)) ∙ ap (exchange p q) (w.here _ (Exchange.below n p q hp hq y h)) ∙ Exchange.back p q y);
  }

  pub agree-swap : (recs recs' : List ℕ) (a : Arranged) → Exchanged p q recs recs' → Agree n recs positions a → Agree n recs' (set (set positions c q) (get_or channels q 0) p) (swapped p q a)
  agree-swap recs recs' a x g = record {
    located = λ y h. ap (exchange p q) (g.located y h) ∙ sym (located-swap y h);
    past = λ y h. rw (Exchange.other p q (a.seat y) (omega (arith, g.past y h, hp)) (omega (arith, g.past y h))) (g.past y h);
    says = λ r k l. g.says (exchange p q r) k l ∙ sym (x r k l);
  }
