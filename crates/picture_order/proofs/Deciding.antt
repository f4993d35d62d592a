-- What each return of the method `decide` asks.
-- Assumes nothing.
use Prim.Native.Nat.{ℕ, ◌+◌, ◌-◌, ◌*◌, ◌≤◌, ◌<◌}
use mathlib.Core.Path.{◌≡◌, refl, sym, ap, subst, ◌∙◌}
use mathlib.Core.List.{List}
use native.Mathlib.Omega.{arith}
use Rattle.std.specs.Prelude as std
use lib.ListN.{get_or, set}
use Rattle.box_number.specs.Table.{◌=?◌}
use Rattle.box_number.proofs.Rows.{row}
use Rattle.box_number.proofs.Indices.{decide}
use Rattle.read_channels.specs.Definitions.{Def}
use Rattle.picture_rules.specs.Edition.{marked_position}
use Rattle.picture_rules.specs.Order.{swapped, marked}
use Rattle.picture_rules.proofs.Exchange
use Rattle.picture_rules.proofs.Steps.{by_row}
use Rattle.picture_order.specs.Flat.{number_at}
use Rattle.picture_order.specs.Private.Positions.{Positioned}
use Rattle.picture_order.specs.Private.Steps.{Exchanged, Agree, Asked, Decided}
use Rattle.picture_order.specs.declared.positions.Ask.{Ask}
use Rattle.picture_order.proofs.Agreement.{agree-mark, agree_same, agree-swap}

abbrev pub mark : ℕ → ℕ → Ask
mark p t = record { i = p; j = p; mark = t }

abbrev pub exchanged : ℕ → ℕ → Ask
exchanged p q = record { i = p; j = q; mark = 0 }

module _ (n edition2 : ℕ) (d : Def) (positions channels : List ℕ) (w : Positioned n positions channels) where
  pub no_record : n ≤ d.channel → Decided n edition2 d positions std.None positions
  no_record h = λ l a g. by_row 0 edition2 n d (a.seat d.channel) a (Agree n l positions) refl (omega (arith, g.past d.channel h)) g

  module _ (hc : d.channel < n) where
    abbrev p : ℕ
    p = get_or positions d.channel 0

    pub below : p < n
    below = w.positions-below d.channel hc

    has : p + 1 ≤ n
    has = omega (arith, below)

    pub only_marked : ((d.asoc ≡ 0 → ⊥) → d.asoc ≡ 65535) → Asked n edition2 d positions (mark p d.typ) positions
    only_marked h = record {
      first = below;
      second = below;
      does = λ l m r x e a g. by_row 1 edition2 n d p a (Agree n _ positions) (g.located d.channel hc) (has, h) (agree-mark n m positions a p d.typ (omega (arith, below, e)) (agree_same n l positions m p a x g));
    }

    module _ (low : d.asoc ≡ 0 → ⊥) (high : d.asoc ≡ 65535 → ⊥) where
      pub no_place : n < d.asoc → Decided n edition2 d positions std.None positions
      no_place h = λ l a g. by_row 2 edition2 n d p a (Agree n l positions) (g.located d.channel hc) (has, ((low, high), h)) g

      pub no-colour : d.asoc ≤ n → (d.typ ≡ 0 → ⊥) → Asked n edition2 d positions (mark p d.typ) positions
      no-colour h t = record {
        first = below;
        second = below;
        does = λ l m r x e a g. by_row 4 edition2 n d p a (Agree n _ positions) (g.located d.channel hc) (has, ((low, high), (h, (t, tt)))) (agree-mark n m positions a p d.typ (omega (arith, below, e)) (agree_same n l positions m p a x g));
      }

      -- the channel's record comes to q. The record at i, one of the two that change places, takes the mark
      module _ (positions' : List ℕ) (h : d.asoc ≤ n) (t : d.typ ≡ 0) (s : positions' ≡ set (set positions d.channel (d.asoc - 1)) (get_or channels (d.asoc - 1) 0) p) where
        abbrev q : ℕ
        q = d.asoc - 1

        q-below : q < n
        q-below = omega arith

        marked-at : (i j : ℕ) → i < n → j < n → marked_position edition2 p q ≡ i → ((l m : List ℕ) → Exchanged i j l m → Exchanged p q l m) → Asked n edition2 d positions (exchanged i j) positions'
        marked-at i j hi hj at turn = record {
          first = hi;
          second = hj;
          does = λ l m r x y a g.
              rw s
              (by_row 3 edition2 n d p a (Agree n _ _) (g.located d.channel hc) (has, ((low, high), (h, t)))
              (subst (λ x. Agree n (set m (13 * i + 12) 0) (set (set positions d.channel q) (get_or channels q 0) p) (marked x 0 (swapped p q a))) (sym at)
              (agree-mark n m _ _ i 0 (omega (arith, y)) (agree-swap n positions channels w d.channel p q hc refl q-below l m a (turn l m x) g))));
        }

        -- edition 1 marks the record that is now at the old position, edition 2 the channel's own
        pub colour : {i j : ℕ} → i ≡ marked_position edition2 p q → j ≡ marked_position edition2 q p → Asked n edition2 d positions (exchanged i j) positions'
        unfolding marked_position
        colour {i} {j} at other =
            decide (edition2 =? 0)
            (λ one.
            let here : i ≡ p = at ∙ sym (row 0 _ one refl) in
            let there : j ≡ q = other ∙ sym (row 0 _ one refl) in
            rw (here, there) (marked-at p q below q-below (sym (row 0 _ one refl)) (λ l m x. x)))
            (λ two.
            let here : i ≡ q = at ∙ sym (row 1 _ (two, tt) refl) in
            let there : j ≡ p = other ∙ sym (row 1 _ (two, tt) refl) in
            rw (here, there) (marked-at q p q-below below (sym (row 1 _ (two, tt) refl)) (λ l m x r j b. x r j b ∙ ap (λ i. number_at l i j) (Exchange.flip q p r))))
