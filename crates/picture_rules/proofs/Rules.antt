-- The theorems on order.
-- Assumes nothing.
use Prim.Native.Nat.{ℕ, ◌<◌}
use mathlib.Core.Path.{◌≡◌, refl, ap, sym, ◌∙◌}
use mathlib.Core.List.{List}
use native.Mathlib.Omega.{arith}
use lib.Dec.{ltb}
use borrow.Author.Tests.{lt-ltb, ltb-true}
use Rattle.box_number.specs.Table.{◌<?◌}
use Rattle.box_number.proofs.Rows.{each}
use Rattle.box_number.proofs.Indices.{decide}
use Rattle.read_channels.specs.Definitions.{Def}
use Rattle.picture_rules.specs.Definitions.{Reordered}
use Rattle.picture_rules.specs.Edition.{order_free_numbers}
use Rattle.picture_rules.specs.Order.{Arranged, arranged}
use Rattle.picture_rules.specs.Rules.{Once, OrderPairs, ColourLands, OrderFree}
use Rattle.picture_rules.proofs.Runs.{Matched, matched, start, alike, lands, same-seats}
use Rattle.picture_rules.proofs.Marks.{own-mark, same-mark}

pub order_pairs : OrderPairs
order_pairs edition2 n ds records =
    let m = matched edition2 n ds records in
    let to = (arranged edition2 n ds records).seat in
    record {
      pairing = record {
        to = to;
        from = m.from;
        to_below = λ c h. ltb-true (to c) n (m.inside c ∙ lt-ltb c n h);
        from-below = λ p h. ltb-true (m.from p) n (sym (m.inside (m.from p)) ∙ ap (λ x. ltb x n) (m.here p) ∙ lt-ltb p n h);
        from-to = λ c h. m.there c;
        to-from = λ p h. m.here p;
      };
      seats = λ c h. refl;
      stands = λ c k h l. m.stands (to c) k l ∙ ap (λ x. records x k) (m.there c);
    }

pub colour_lands : ColourLands
colour_lands edition2 n ds records o d t k h l = lands edition2 n d ds records _ (start n records) o t k h l

-- two arrangements of the same records, with every channel at the same position in both
module _ (n : ℕ) (records : ℕ → ℕ → ℕ) {a b : Arranged} (here : Matched n records a) (there : Matched n records b) (seats : (c : ℕ) → a.seat c ≡ b.seat c) (p : ℕ) where
  -- position p has the same channel
  same-channel : here.from p ≡ there.from p
  same-channel = sym (there.there (here.from p)) ∙ ap there.from (sym (seats (here.from p)) ∙ here.here p)

  -- and so the same record, its mark aside
  pub same_number : (k : ℕ) → k < 12 → a.records p k ≡ b.records p k
  same_number k l = here.stands p k l ∙ ap (λ x. records x k) same-channel ∙ sym (there.stands p k l)

-- the two editions put every record at the same place
pub same-places : (edition2 other n : ℕ) (ds : List Def) (records : ℕ → ℕ → ℕ) (p k : ℕ) → k < 12 → (arranged edition2 n ds records).records p k ≡ (arranged other n ds records).records p k
same-places edition2 other n ds records p k l =
    same_number n records (matched edition2 n ds records) (matched other n ds records) (alike edition2 other n ds _ _ (λ c. refl)) p k l

module _ (edition2 n : ℕ) (ds es : List Def) (records : ℕ → ℕ → ℕ) (few : n < 65536) (o : Once ds) (r : Reordered ds es) (p : ℕ) where
  abbrev here : Matched n records (arranged edition2 n ds records)
  here = matched edition2 n ds records

  abbrev there : Matched n records (arranged edition2 n es records)
  there = matched edition2 n es records

  reordered-seats : (c : ℕ) → (arranged edition2 n ds records).seat c ≡ (arranged edition2 n es records).seat c
  reordered-seats c = same-seats edition2 n ds es records _ c few (start n records) o r

  reordered-number : (k : ℕ) → k < 12 → (arranged edition2 n ds records).records p k ≡ (arranged edition2 n es records).records p k
  reordered-number = same_number n records here there reordered-seats p

  -- in edition 2 it is the same channel's mark too
  reordered-mark : (edition2 ≡ 0 → ⊥) → (arranged edition2 n ds records).records p 12 ≡ (arranged edition2 n es records).records p 12
  reordered-mark second =
      let c = here.from p in
      ap (λ x. (arranged edition2 n ds records).records x 12) (sym (here.here p)) ∙ own-mark edition2 n second ds records c ∙ same-mark n ds es c (records c 12) o r
      ∙ sym (own-mark edition2 n second es records c) ∙ ap (λ x. (arranged edition2 n es records).records x 12) (sym (reordered-seats c) ∙ here.here p)

pub order_free : OrderFree
unfolding order_free_numbers
order_free edition2 n ds es records few o r p k =
    each (λ many. k < many → (arranged edition2 n ds records).records p k ≡ (arranged edition2 n es records).records p k) _ (
      (λ _ l. reordered-number edition2 n ds es records few o r p k l),
      λ second l. decide (k <? 12) (reordered-number edition2 n ds es records few o r p k)
          (λ no. let last : k ≡ 12 = omega arith in rw last (reordered-mark edition2 n ds es records few o r p second)),
    )
