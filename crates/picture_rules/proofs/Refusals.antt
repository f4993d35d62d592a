-- Each row of the tables of finishing names a number from 25 to 30.
-- Assumes nothing.
use Prim.Native.Nat.{ℕ, ◌≤◌}
use native.Mathlib.Omega.{arith}
use mathlib.Core.Path.{subst}
use mathlib.Core.List.{List}
use Rattle.box_number.proofs.Rows.{each}
use Rattle.read_record.specs.declared.Jp2.{Jp2}
use Rattle.picture_rules.specs.Image.{Image}
use Rattle.picture_rules.specs.Finish.{Finishing, finished, declined, counted, fitted, colour_checks, checks, finish}
use Rattle.picture_rules.specs.Handed.{Handed}
use Rattle.picture_rules.specs.Refusals.{FinishingNumbers}

abbrev Numbered : Finishing → Type 0
Numbered (finished planes) = Unit
Numbered (declined number place) = (25 ≤ number) × (number ≤ 30)

fitted-numbered : (edition2 : ℕ) (f : List ℕ) (m : Jp2) (i : Image) (records samples : ℕ) → Numbered (fitted edition2 f m i records samples)
unfolding fitted
fitted-numbered edition2 f m i records samples = each Numbered _ ((λ _. (omega arith, omega arith)), λ _. ((λ _. (omega arith, omega arith)), λ _. tt))

checks-numbered : (edition2 : ℕ) (f : List ℕ) (m : Jp2) (i : Image) (next : Finishing) → Numbered next → Numbered (colour_checks declined edition2 f m i next)
unfolding colour_checks
checks-numbered edition2 f m i next h =
    each Numbered _ (
      (λ _. (omega arith, omega arith)),
      λ _. ((λ _. (omega arith, omega arith)), λ _. ((λ _. (omega arith, omega arith)), λ _. ((λ _. (omega arith, omega arith)), λ _. h))),
    )

finish-numbered : (h : Handed) (m : Jp2) → Numbered (finish h m)
unfolding finish checks
finish-numbered h m =
    let k = counted h.settings m in
    each Numbered _ (
      (λ _. (omega arith, omega arith)),
      λ _. checks-numbered h.settings.edition2 h.file k h.image _ (fitted-numbered h.settings.edition2 h.file k h.image h.records h.samples),
    )

pub finishing-numbers : FinishingNumbers
finishing-numbers h m number place e = subst Numbered e (finish-numbered h m)
