-- The tests of a child's header, and one turn of the splitting into boxes.
-- Assumes nothing.
use Prim.Native.Nat.{ℕ, zero, suc, ◌+◌, ◌≤◌, ◌<◌}
use native.Mathlib.Omega.{arith}
use mathlib.Core.Path.{◌≡◌, refl, sym, ap, subst}
use mathlib.Core.List.{List}
use lib.ListN.{length, drop}
use Rattle.box_number.proofs.Rows.{row, each}
use Rattle.box_header.specs.Box.{LBox, length_of_header, box_length, header_of}
use Rattle.box_header.specs.declared.Jp2BoxHeader.{Jp2BoxHeader}
use Rattle.read_record.specs.declared.Jp2.{Jp2}
use Rattle.read_record.specs.Answer.{Result, refused}
use Rattle.read_jp2h.specs.Split.{Boxes, no_bytes, ◌▸◌, first_box, split}
use Rattle.read_jp2h.specs.Jp2h.{read_all}
use Rattle.read_jp2h.specs.Private.Step.{fault, first_item, next_child}
use Rattle.read_jp2h.specs.declared.Item.{Item}
use Rattle.std.specs.Prelude.{Option, Some, None}
use Rattle.box_refusal.specs.Told.{Told, accepted}

module _ (at : ℕ) (c : List ℕ) where
  -- the box of a header
  abbrev item_of : Jp2BoxHeader → Item
  item_of h = record { place = at; header = h }

  pub next-none : length c ≡ 0 → accepted None ≡ next_child at c
  unfolding next_child
  next-none h = row 0 _ h refl

  module _ (some : length c ≡ 0 → ⊥) where
    pub next-fault : (n : ℕ) → fault c ≡ n → 0 < n → refused n at ≡ next_child at c
    unfolding next_child
    next-fault n e h = row 1 _ (some, omega arith) (ap (λ m. refused m at) (sym e))

    pub next-found : {h : Jp2BoxHeader} → h ≡ header_of c → fault c ≡ 0 → accepted (Some (item_of h)) ≡ next_child at c
    unfolding next_child
    next-found e z = row 2 _ (some, (z, tt)) (ap (λ (h : Jp2BoxHeader). accepted (Some (item_of h))) e)

  -- and back: the fault, by what was found
  abbrev Tells : Told (Option Item) → Type 0
  Tells (accepted None) = length c ≡ 0
  Tells (refused n p) = (0 < length c) × (n ≡ fault c) × (p ≡ at) × (fault c ≡ 0 → ⊥)
  Tells (accepted (Some b)) = (0 < length c) × (b ≡ first_item at c) × (fault c ≡ 0)

  pub next-tells : {l : Told (Option Item)} → l ≡ next_child at c → Tells l
  unfolding next_child
  next-tells e = subst Tells (sym e) (each Tells _ ((λ h. h), λ s. ((λ h. (omega arith, refl, refl, h)), λ h. (omega arith, refl, h))))

module _ (c : List ℕ) where
  pub fault_10 : (length_of_header c ≤ length c → (LBox c ≡ 0 → ⊥) → 4294967295 < box_length c) → fault c ≡ 10
  unfolding fault
  fault_10 h = sym (row 0 _ h refl)

  module _ (some : LBox c ≡ 0 → ⊥) (header : length_of_header c ≤ length c) (low : box_length c ≤ 4294967295) where
    pub fault_11 : (length_of_header c ≤ box_length c → length c < box_length c) → fault c ≡ 11
    unfolding fault
    fault_11 h = sym (row 1 _ ((header, (some, low)), h) refl)

    pub fault_0 : length_of_header c ≤ box_length c → box_length c ≤ length c → fault c ≡ 0
    unfolding fault
    fault_0 h k = sym (row 2 _ (omega arith) refl)

  -- a child that has no fault lies within c
  pub record Whole : Type 0 where
    pub header : length_of_header c ≤ length c
    pub some : LBox c ≡ 0 → ⊥
    pub low : box_length c ≤ 4294967295
    pub least : length_of_header c ≤ box_length c
    pub most : box_length c ≤ length c

  pub sound : fault c ≡ 0 → Whole
  unfolding fault
  sound =
      each (λ n. n ≡ 0 → Whole) _
      ((λ h z. absurd (omega arith)), λ h. ((λ k z. absurd (omega arith)), λ k z. record { header = h.0; some = h.1.0; low = h.1.1; least = k.0; most = k.1 }))

-- one turn of the splitting
module _ (at : ℕ) (c : List ℕ) where
  pub split-none : (n : ℕ) → length c ≡ 0 → split n at c ≡ no_bytes
  unfolding split
  split-none zero h = refl
  split-none (suc n) h = sym (row 0 _ h refl)

  pub split-more : (n : ℕ) → 0 < length c → fault c ≡ 0 → split (suc n) at c ≡ first_box at c ▸ split n (at + box_length c) (drop (box_length c) c)
  unfolding split
  split-more n l f = let w = sound c f in sym (row 6 _ (omega arith, (w.header, (w.low, (w.some, (w.least, (w.most, tt)))))) refl)

  -- a child with a fault is refused, however the split has ended there
  pub split-fault : (n : ℕ) (k : Jp2) → 0 < length c → (fault c ≡ 0 → ⊥) → read_all (split (suc n) at c) k ≡ refused (fault c) at
  unfolding split read_all
  split-fault n k l f =
      each (λ (bs : Boxes). read_all bs k ≡ refused (fault c) at) _ (
        (λ h. absurd (omega arith)),
        λ h. (
          (λ a. ten (λ x y. absurd (omega arith))),
          λ a. (
            (λ b. ten (λ x y. b)),
            λ b. (
              (λ z. ten (λ x y. absurd (y z))),
              λ z. (
                (λ s. eleven (fault_11 c z a b (λ x. absurd (omega arith)))),
                λ s.
                    ((λ p. eleven (fault_11 c z a b (λ x. p))), λ p. absurd (f (fault_0 c z a b s p))),
              ),
            ),
          ),
        ),
      )
    where
      ten : (length_of_header c ≤ length c → (LBox c ≡ 0 → ⊥) → 4294967295 < box_length c) → ◌≡◌ {A = Result} (refused 10 at) (refused (fault c) at)
      ten h = ap (λ (m : ℕ). refused m at) (sym (fault_10 c h))

      eleven : fault c ≡ 11 → ◌≡◌ {A = Result} (refused 11 at) (refused (fault c) at)
      eleven e = ap (λ (m : ℕ). refused m at) (sym e)
