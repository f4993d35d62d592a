-- Whether the destinations have room for a picture: what bounds the sums, and what each answer means.
-- Assumes nothing.
use Prim.Native.Nat.{ℕ, ◌*◌, ◌≤◌, ◌<◌}
use native.Mathlib.Omega.{arith}
use mathlib.Core.Path.{◌≡◌, refl, ap, ◌∙◌}
use mathlib.Core.List.{List}
use lib.ListN.{length}
use Rattle.box_number.specs.Table.{◌=?◌}
use Rattle.box_number.proofs.Rows.{row, each}
use Rattle.box_refusal.specs.Told.{accepted, refused}
use Rattle.read_record.specs.declared.Jp2.{Jp2}
use Rattle.picture_rules.specs.Image.{Image, first, no_data, size}
use Rattle.picture_rules.specs.Channels.{channels, component_of}
use Rattle.picture_rules.specs.Samples.{start_of}
use Rattle.picture_rules.specs.Finish.{Finishing, finished, declined, picture, fitted}
use Rattle.box_number.proofs.Indices.{decide}
use Rattle.picture_rules.proofs.Packs.{Within, size_none, size-some}
use Rattle.picture_rules.proofs.Mappings.{kept, channels-few, component-inside}
use Rattle.picture_rules.specs.Answers.{answered}
use Rattle.picture_finish.specs.Private.Parts.{Tested, Roomy}

-- a refusal that was answered
pub refused-is : (x : Finishing) {number place : ℕ} → refused number place ≡ answered x → x ≡ declined number place
unfolding answered
refused-is (finished planes) e = cc
refused-is (declined number place) e = cc

clash : {X : Type 0} {n : ℕ} (number place : ℕ) → accepted n ≡ answered (declined number place) → X
unfolding answered
clash number place e = absurd (cc)

counts : {n : ℕ} (planes : Image) → accepted n ≡ answered (finished planes) → n ≡ planes.count
unfolding answered
counts planes e = cc

module _ (f : List ℕ) (m : Jp2) (i : Image) where
  -- a component whose samples lie in their list has no more of them than the list
  size-most : (r : ℕ) → length i.samples ≤ 4294967294 → Within i r → size i r ≤ 4294967294
  size-most r few within =
      decide (first i r =? no_data)
      (λ e. omega (arith, size_none i r e))
      (λ some. omega (arith, size-some i r some, within some))

  module _ (tested : Tested f m i) where
    pub channels-most : channels m i.count ≤ 16384
    channels-most = channels-few f m i tested.lists tested.file

    pub sizes-most : (c : ℕ) → c < channels m i.count → size i (component_of f m c) ≤ 4294967294
    sizes-most c l =
        size-most (component_of f m c) tested.lists.1.1.0 (component-inside f m i (kept f m tested.file) tested.mapping c l tested.lists)

  module _ (records planes edition2 : ℕ) where
    module _ {n : ℕ} (d : n ≡ channels m i.count) where
      pub refused-records : records < 13 * n → refused 30 (13 * n) ≡ answered (fitted edition2 f m i records planes)
      unfolding fitted answered
      refused-records l = rw d (ap answered (row 0 _ (omega arith) refl))

      module _ {needed : ℕ} (s : needed ≡ start_of f m i n) (r : 13 * n ≤ records) where
        is : needed ≡ start_of f m i (channels m i.count)
        is = s ∙ ap (start_of f m i) d

        pub refused-samples : (needed ≤ 4294967294 → planes < needed) → refused 30 needed ≡ answered (fitted edition2 f m i records planes)
        unfolding fitted answered
        refused-samples l = let z = is in rw z (ap answered (row 1 _ (omega arith, (λ few. omega (arith, l (omega arith)))) refl))

        pub planes-fit : needed ≤ 4294967294 → needed ≤ planes → accepted n ≡ answered (fitted edition2 f m i records planes)
        unfolding fitted answered picture
        planes-fit l k = let z = is in rw d (ap answered (row 2 _ (omega arith, ((omega arith, omega arith), tt)) refl))

    -- planes are answered where there is room
    pub planes_are : {n : ℕ} → accepted n ≡ answered (fitted edition2 f m i records planes) → (fitted edition2 f m i records planes ≡ finished (picture edition2 f m i)) × Roomy f m i n records planes
    unfolding fitted picture
    planes_are {n} =
        each (λ x. accepted n ≡ answered x → (x ≡ finished (picture edition2 f m i)) × Roomy f m i n records planes) _ (
          (λ _. clash _ _),
          λ long. ((λ _. clash _ _), λ fits e. (refl, roomy long fits.0 fits.1 (counts (picture edition2 f m i) e))),
        )
      where
        roomy : 13 * channels m i.count ≤ records → start_of f m i (channels m i.count) ≤ 4294967294 → start_of f m i (channels m i.count) ≤ planes → n ≡ channels m i.count → Roomy f m i n records planes
        roomy a b c d = record { all = d; record_room = rw d a; most = rw d b; sample-room = rw d c }
