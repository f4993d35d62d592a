-- Demand 3 from the answer's numbers: they say what was answered.
-- Assumes nothing.
use Prim.Native.Nat.{ℕ}
use native.Mathlib.Omega.{arith}
use mathlib.Core.Path.{◌≡◌, refl, sym, ap, subst, ◌∙◌}
use mathlib.Core.List.{List, [], ◌∷◌}
use lib.IntN.{ℤ}
use Rattle.box_number.specs.Table.{table}
use Rattle.box_number.specs.Number.{placed}
use Rattle.picture_rules.specs.Image.{Image}
use Rattle.picture_rules.specs.Words.{Handed}
use Rattle.box_refusal.specs.Told.{Told, accepted, refused}
use Rattle.picture_rules.specs.Whole.{Demand3, Said, Speaks}
use Rattle.export_rules.specs.Answers.{done_numbers, of_told, answer_in, AnswerTold}
use Rattle.export_rules.specs.Rule.{ToldRight}

pub answer-told : AnswerTold
unfolding placed answer_in table
answer-told d (accepted n) = refl
answer-told d (refused number place) = refl

pub told-right :
    (h : Handed) (d : List ℕ) (r : Told ℕ) {e records' : List ℕ} {planes planes' : List ℤ} →
    e ≡ placed d 0 (of_told r) → Demand3 h r records' planes planes' → ToldRight h d e records' planes planes'
told-right h d r {records' = records'} {planes = planes} {planes' = planes'} p rule room =
    subst (λ (s : Told ℕ). Demand3 h s records' planes planes') (sym (ap answer_in p ∙ answer-told d r)) rule

-- the clause is not empty: what demand 3 says of planes, it says too
pub told-speaks :
    (h : Handed) (planes : Image) (other : List ℕ) → Speaks h planes other →
    ToldRight h (0 ∷ 0 ∷ 0 ∷ 0 ∷ []) (done_numbers planes.count) planes.components [] planes.samples → Said h planes other
unfolding answer_in table
told-speaks h planes other speaks rule = speaks (rule (omega arith))
