use native.Mathlib.Omega.{arith}
use mathlib.Core.Path.{refl, sym, ap, ◌∙◌}
use mathlib.Core.Bool.{true, false, not}
use Rattle.box_number.specs.Table.{◌≠?◌}
use Rattle.box_number.proofs.Rows.{row, true_false}
use Rattle.box_number.proofs.Answers.{said}
use Rattle.read_record.specs.State.{bit}
use Rattle.read_record.proofs.Told.{turned_down}
use Rattle.read_jp2h.specs.Private.Step.{admitted}
use Rattle.read_jp2h.proofs.admit.Goals.{else-not-alone-via-then-not-alone+else-not-has, else-not-alone-via-else-not-alone}
use Rattle.read_jp2h.proofs.admit.Goals as goal

pub returns-then-at-c : goal.returns-then-at-c
unfolding admitted
returns-then-at-c c = turned_down c.refused.ensures (row 0 _ (omega arith) refl)

pub returns-then-not-has : goal.returns-then-not-has
unfolding admitted
returns-then-not-has c =
    let b = said false (bit 2 c.args.status.state ≠? 0) (sym c.if-not-has.true ∙ c.has.ensures) in
    turned_down c.refused-then-not-has.ensures (row 1 _ (omega arith, (ap not c.if-not-alone.true, b)) refl)

pub returns : goal.returns
unfolding admitted
returns c =
    elim c.else-not-alone.branch [
      | else-not-alone-via-then-not-alone+else-not-has w ↦
          let b = said true (bit 2 c.args.status.state ≠? 0) (sym w.if-not-has.false ∙ w.has.ensures) in
          row 2 _ (omega arith, ((λ h. b), tt)) refl
      | else-not-alone-via-else-not-alone w ↦ row 2 _ (omega arith, ((λ h. true_false (sym h ∙ ap not w.if-not-alone.false)), tt)) refl
    ]
