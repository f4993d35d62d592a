-- A run of definitions: each channel keeps one position and each position one channel; a colour definition's channel lands and stays; definitions that are apart may change places.
-- Assumes nothing.
use Prim.Native.Nat.{ℕ, ◌-◌, ◌≤◌, ◌<◌}
use mathlib.Core.Path.{◌≡◌, refl, ap, sym, ◌∙◌}
use mathlib.Core.List.{List, [], ◌∷◌, ◌++◌}
use mathlib.Core.Logic.{⊎_elim}
use native.Mathlib.Omega.{arith}
use lib.Dec.{ltb}
use borrow.Author.Tests.{lt-ltb, ltb-true}
use Rattle.read_channels.specs.Definitions.{Def}
use Rattle.picture_rules.specs.Definitions.{Colour, times, Reordered}
use Rattle.picture_rules.specs.Order.{Arranged, define, run_definitions, arranged}
use Rattle.picture_rules.specs.Rules.{Once}
use Rattle.picture_rules.proofs.Exchange
use Rattle.picture_rules.proofs.Steps.{Apart, step, steps, moving, undone, within, commute, follows}
use Rattle.picture_rules.proofs.Counting.{first, later, found, apart, once-rest, taken, no_more}

-- the channels and the positions pair up, below n and as a whole, and a position's record is, its mark aside, that of its channel
pub record Matched (n : ℕ) (records : ℕ → ℕ → ℕ) (a : Arranged) : Type 0 where
  pub from : ℕ → ℕ
  pub there : (c : ℕ) → from (a.seat c) ≡ c
  pub here : (p : ℕ) → a.seat (from p) ≡ p
  pub inside : (c : ℕ) → ltb (a.seat c) n ≡ ltb c n
  pub stands : (p k : ℕ) → k < 12 → a.records p k ≡ records (from p) k

pub defined : (edition2 n : ℕ) (d : Def) (records : ℕ → ℕ → ℕ) (a : Arranged) → Matched n records a → Matched n records (define edition2 n d a)
defined edition2 n d records a m =
    let f = follows edition2 n d a in
    let s = step n d (a.seat d.channel) in
    record {
      from = λ p. m.from (s p);
      there = λ c. ap (λ p. m.from (s p)) (f.seats c) ∙ ap m.from (undone n d _ _) ∙ m.there c;
      here = λ p. f.seats _ ∙ ap s (m.here (s p)) ∙ undone n d _ p;
      inside = λ c. ap (λ p. ltb p n) (f.seats c) ∙ within n d _ _ ∙ m.inside c;
      stands = λ p k l. f.stands p k l ∙ m.stands (s p) k l;
    }

ran : (edition2 n : ℕ) (ds : List Def) (records : ℕ → ℕ → ℕ) (a : Arranged) → Matched n records a → Matched n records (run_definitions edition2 n ds a)
unfolding run_definitions
ran edition2 n [] records a m = m
ran edition2 n (d ∷ ds) records a m = ran edition2 n ds records (define edition2 n d a) (defined edition2 n d records a m)

-- at the start every channel is at its own number
pub start : (n : ℕ) (records : ℕ → ℕ → ℕ) → Matched n records (record { seat = λ c. c; records = records })
start n records = record { from = λ p. p; there = λ c. refl; here = λ p. refl; inside = λ c. refl; stands = λ p k l. refl }

pub matched : (edition2 n : ℕ) (ds : List Def) (records : ℕ → ℕ → ℕ) → Matched n records (arranged edition2 n ds records)
matched edition2 n ds records = ran edition2 n ds records _ (start n records)

pub only : (n : ℕ) (records : ℕ → ℕ → ℕ) (a : Arranged) → Matched n records a → (c e : ℕ) → a.seat c ≡ a.seat e → c ≡ e
only n records a m c e h = sym (m.there c) ∙ ap m.from h ∙ m.there e

-- a channel that is where its colour number says stays there
stays : (edition2 n : ℕ) (d : Def) (ds : List Def) (records : ℕ → ℕ → ℕ) (a : Arranged) → Matched n records a → ((e : Def) → 0 < times e ds → Apart d e) → Colour d → a.seat d.channel ≡ d.asoc - 1 → (run_definitions edition2 n ds a).seat d.channel ≡ d.asoc - 1
unfolding run_definitions
stays edition2 n d [] records a m w k e = e
stays edition2 n d (f ∷ ds) records a m w k e =
    stays edition2 n d ds records (define edition2 n f a) (defined edition2 n f records a m) (λ g o. w g (later g f ds o)) k ((follows edition2 n f a).seats d.channel ∙ unmoved ∙ e)
  where
    unmoved : step n f (a.seat f.channel) (a.seat d.channel) ≡ a.seat d.channel
    unmoved =
        steps (λ y. y ≡ a.seat d.channel) n f (a.seat f.channel) (a.seat d.channel)
        (λ h. Exchange.other _ _ _ (λ u. (w f (first f ds)).0 (only n records a m _ _ u)) (λ u. (w f (first f ds)).1 k (h.1.0, omega arith, omega arith) (omega arith)))
        refl

pub lands : (edition2 n : ℕ) (d : Def) (ds : List Def) (records : ℕ → ℕ → ℕ) (a : Arranged) → Matched n records a → Once ds → 0 < times d ds → Colour d → d.channel < n → d.asoc ≤ n → (run_definitions edition2 n ds a).seat d.channel ≡ d.asoc - 1
unfolding run_definitions times
lands edition2 n d [] records a m o t k h l = absurd (omega arith)
lands edition2 n d (f ∷ ds) records a m o t k h l =
    ⊎_elim
    (λ e. rw (← e) (stays edition2 n d ds records (define edition2 n d a) (defined edition2 n d records a m) (rw (← e) at (apart f ds o)) k arrives))
    (λ r. lands edition2 n d ds records (define edition2 n f a) (defined edition2 n f records a m) (once-rest f ds o) r k h l)
    (found d f ds t)
  where
    below : a.seat d.channel < n
    below = ltb-true _ n (m.inside d.channel ∙ lt-ltb _ n h)

    arrives : (define edition2 n d a).seat d.channel ≡ d.asoc - 1
    arrives =
        (follows edition2 n d a).seats d.channel ∙ moving n d _ _ (below, (k.0, (omega arith, (omega arith, omega arith)))) ∙ Exchange.first _ _ _ refl

-- where the channels end depends only on where they are, and not on the edition
pub alike : (edition2 other n : ℕ) (ds : List Def) (a b : Arranged) → ((c : ℕ) → a.seat c ≡ b.seat c) → (c : ℕ) → (run_definitions edition2 n ds a).seat c ≡ (run_definitions other n ds b).seat c
unfolding run_definitions
alike edition2 other n [] a b e c = e c
alike edition2 other n (d ∷ ds) a b e c =
    alike edition2 other n ds (define edition2 n d a) (define other n d b)
    (λ x. (follows edition2 n d a).seats x ∙ rw (e d.channel, e x) (sym ((follows other n d b).seats x))) c

twice : (edition2 n : ℕ) (d e : Def) (a : Arranged) (c : ℕ) → (define edition2 n d (define edition2 n e a)).seat c ≡ step n d (step n e (a.seat e.channel) (a.seat d.channel)) (step n e (a.seat e.channel) (a.seat c))
twice edition2 n d e a c = (follows edition2 n d (define edition2 n e a)).seats c ∙ rw ((follows edition2 n e a).seats d.channel, (follows edition2 n e a).seats c)

-- a definition that is apart from all before it may as well come first
fronted : (edition2 n : ℕ) (d : Def) (xs ys : List Def) (records : ℕ → ℕ → ℕ) (a : Arranged) (c : ℕ) → n < 65536 → Matched n records a → ((e : Def) → 0 < times e xs → Apart d e) → (run_definitions edition2 n (xs ++ d ∷ ys) a).seat c ≡ (run_definitions edition2 n (d ∷ xs ++ ys) a).seat c
unfolding run_definitions
fronted edition2 n d [] ys records a c few m w = refl
fronted edition2 n d (e ∷ xs) ys records a c few m w =
    fronted edition2 n d xs ys records (define edition2 n e a) c few (defined edition2 n e records a m) (λ g o. w g (later g e xs o)) ∙ alike edition2 edition2 n (xs ++ ys) _ _ swap c
  where
    swap : (x : ℕ) → (define edition2 n d (define edition2 n e a)).seat x ≡ (define edition2 n e (define edition2 n d a)).seat x
    swap x =
        twice edition2 n d e a x ∙ sym (commute n d e _ _ (a.seat x) few (λ u. (w e (first e xs)).0 (only n records a m _ _ u)) (w e (first e xs)))
        ∙ sym (twice edition2 n e d a x)

-- and so the order of the definitions does not matter
pub same-seats : (edition2 n : ℕ) (ds es : List Def) (records : ℕ → ℕ → ℕ) (a : Arranged) (c : ℕ) → n < 65536 → Matched n records a → Once ds → Reordered ds es → (run_definitions edition2 n ds a).seat c ≡ (run_definitions edition2 n es a).seat c
unfolding run_definitions
same-seats edition2 n [] es records a c few m o r = rw (no_more es r)
same-seats edition2 n (d ∷ ds) es records a c few m o r =
    let t = taken d ds es r in
    same-seats edition2 n ds (t.at.before ++ t.at.behind) records (define edition2 n d a) c few (defined edition2 n d records a m) (once-rest d ds o) t.rest
    ∙ sym (ap (λ l. (run_definitions edition2 n l a).seat c) t.at.whole ∙ fronted edition2 n d t.at.before t.at.behind records a c few m (λ e i. apart d ds o e (t.within e i)))
