-- Finishing with the numbers of a reading, by the three rows of its table.
-- Assumes nothing.
use Prim.Native.Nat.{ℕ}
use mathlib.Core.Path.{◌≡◌, refl, sym}
use mathlib.Core.Bool.{true, false}
use mathlib.Core.List.{List}
use lib.ListN.{get_or}
use Rattle.box_number.proofs.Rows.{Says, row}
use Rattle.picture_rules.specs.Words.{Handed}
use Rattle.picture_rules.specs.Finish.{declined, finish}
use Rattle.export_rules.specs.Places as at
use Rattle.export_rules.specs.FinishReading.{no_reading, record_of, finish_reading}

module _ (h : Handed) (xs : List ℕ) where
  pub none : Says true (no_reading xs) → finish_reading h xs ≡ declined 29 0
  unfolding finish_reading
  none t = sym (row 0 _ t refl)

  pub refused : Says false (no_reading xs) → get_or xs at.kind 0 ≡ at.reading_refused → finish_reading h xs ≡ declined (get_or xs at.value 0) (get_or xs at.place 0)
  unfolding finish_reading
  refused f e = sym (row 1 _ (f, e) refl)

  pub on : Says false (no_reading xs) → (get_or xs at.kind 0 ≡ at.reading_refused → ⊥) → finish_reading h xs ≡ finish h (record_of xs)
  unfolding finish_reading
  on f n = sym (row 2 _ (f, (n, tt)) refl)
