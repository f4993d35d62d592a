-- The samples of one channel at their place: copied, looked up in a column, or none.
-- Assumes nothing.
use Prim.Native.Nat.{ℕ}
use native.Mathlib.Nat.{add-zero}
use mathlib.Core.Path.{◌≡◌, refl, sym, ap, ap₂, ◌∙◌}
use mathlib.Core.Bool.{Bool, true, false}
use mathlib.Core.List.{List, [], ◌∷◌, map, append-nil}
use lib.IntN.{ℤ}
use lib.ListN.{length, take, take-append-drop}
use Rattle.box_number.specs.Table.{◌or◌}
use Rattle.box_number.specs.Number.{placed}
use Rattle.box_number.proofs.Rows.{row}
use Rattle.picture_rules.specs.Image.{Image, first, no_data, size}
use Rattle.picture_planes.specs.declared.Column.{Column}
use Rattle.picture_planes.specs.Written.{written_unless}
use Rattle.picture_planes.specs.Column.{no_column, picked}
use Rattle.picture_planes.specs.Plane.{samples_of, samples_outside}
use Rattle.picture_planes.proofs.Picks.{map_same}
use Rattle.picture_finish.specs.Private.Parts.{value_by, samples_at, Packable}

-- a channel that is not looked up takes the samples as they are
direct : (s : List ℕ) (k : Column) (looked : Bool) → looked ≡ false → (l : List ℤ) → l ≡ map (value_by s k looked) l
direct s k looked h [] = refl
direct s k looked h (v ∷ l) = ap₂ ◌∷◌ (row 1 _ (h, tt) refl) (direct s k looked h l)

-- the samples of component r
abbrev source : Image → ℕ → List ℤ
source i r = samples_of i.samples (first i r) (size i r)

module _ (s : List ℕ) (k : Column) (i : Image) (r : ℕ) (looked : Bool) (d : List ℤ) (at : ℕ) where
  -- a component without samples changes nothing
  pub placed-blank : 0 ≡ size i r → d ≡ placed d at (samples_at s k i r looked)
  unfolding placed
  placed-blank e = rw (← e, add-zero at, append-nil (take at d)) (sym (take-append-drop at d))

  module _ (h : Packable k i r looked (length d) at) (some : first i r ≡ no_data → ⊥) {from n : ℕ} {e : List ℤ} (u : from ≡ first i r) (v : n ≡ size i r) where
    pub placed-looked : looked ≡ true → e ≡ written_unless (no_column k or samples_outside i.samples from n d at) d at (map (picked s k) (samples_of i.samples from n)) → e ≡ placed d at (samples_at s k i r looked)
    unfolding written_unless
    placed-looked t q =
        let p : e ≡ placed d at (map (picked s k) (source i r)) = rw (u, v) at q ∙ sym (row 1 _ ((h.column t, (h.inside some, h.fits)), tt) refl) in
        p ∙ ap (placed d at) (map_same (λ x. row 0 _ t refl) (source i r))

    pub placed_copied : looked ≡ false → e ≡ written_unless (samples_outside i.samples from n d at) d at (samples_of i.samples from n) → e ≡ placed d at (samples_at s k i r looked)
    unfolding written_unless
    placed_copied t q =
        let p : e ≡ placed d at (source i r) = rw (u, v) at q ∙ sym (row 1 _ ((h.inside some, h.fits), tt) refl) in
        p ∙ ap (placed d at) (direct s k looked t (source i r))
