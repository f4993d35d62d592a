-- What a run answers, and what it leaves, where it refuses, where there is nothing to do, and where the definitions are applied.
-- Assumes nothing.
use Prim.Native.Nat.{ℕ}
use mathlib.Core.Path.{◌≡◌, refl}
use mathlib.Core.Logic.{◌⊎◌, inl, inr}
use mathlib.Core.Bool.{true, false}
use mathlib.Core.List.{List}
use Rattle.box_number.specs.Table.{holds}
use Rattle.box_number.proofs.Rows.{row}
use Rattle.box_number.proofs.Answers.{said}
use Rattle.box_refusal.specs.Told.{accepted, refused}
use Rattle.read_record.specs.declared.Span.{Span}
use Rattle.picture_rules.specs.Flat.{flat}
use Rattle.picture_order.specs.Flat.{reorder_outside, reordered, answered, afterwards}
use Rattle.picture_order.proofs.Fronts.{reordered-none}

module _ (edition2 : ℕ) (f : List ℕ) (cdef : Span) (n : ℕ) (l : List ℕ) where
  pub refuses : true ≡ holds (reorder_outside f cdef n l) → (refused 29 0 ≡ answered f cdef n l) × (l ≡ afterwards edition2 f cdef n l)
  unfolding answered afterwards
  refuses h = let t = said true (reorder_outside f cdef n l) h in (row 0 _ t refl, row 0 _ t refl)

  pub passes : false ≡ holds (reorder_outside f cdef n l) → {m : List ℕ} → m ≡ reordered edition2 f cdef n l → (accepted tt ≡ answered f cdef n l) × (m ≡ afterwards edition2 f cdef n l)
  unfolding answered afterwards
  passes h e = let t = said false (reorder_outside f cdef n l) h in (row 1 _ (t, tt) refl, row 1 _ (t, tt) e)

  -- of no records nothing changes
  no-records : n ≡ 0 → l ≡ reordered edition2 f cdef n l
  unfolding reordered flat
  no-records e = rw e refl

  -- nor by no definitions
  pub nothing : false ≡ holds (reorder_outside f cdef n l) → (n ≡ 0) ⊎ ((n ≡ 0 → ⊥) × (cdef.count ≡ 0)) → (accepted tt ≡ answered f cdef n l) × (l ≡ afterwards edition2 f cdef n l)
  nothing h (inl e) = passes h (no-records e)
  nothing h (inr e) = passes h (reordered-none edition2 f cdef n l e.1 (said false (reorder_outside f cdef n l) h).1.0)
