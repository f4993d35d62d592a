use mathlib.Core.Path.{◌≡◌, refl, sym, ◌∙◌}
use mathlib.Core.Bool.{true, false}
use native.Mathlib.Omega.{arith}
use lib.ListN.{length, length-set}
use Rattle.box_number.specs.Number.{bytes, fits, written, lies_outside}
use Rattle.box_number.proofs.Rows.{row}
use Rattle.box_number.proofs.Answers.{said}
use Rattle.box_number.proofs.Placing.{placed-none}
use Rattle.box_number.proofs.Bytes.{placed-low}
use Rattle.box_number.proofs.opj_write_bytes.Goals.{then-nb-gt4-via-then-nb-gt4, then-nb-gt4-via-else-nb-gt4+then-lies_outside}
use Rattle.box_number.proofs.opj_write_bytes.Goals as goal

pub returns-then-nb-gt4 : goal.returns-then-nb-gt4
unfolding fits written
returns-then-nb-gt4 c =
    let a = c.args in
    elim c.then-nb-gt4.branch [
      | then-nb-gt4-via-then-nb-gt4 w ↦ (row 0 _ (omega (arith, w.if-nb-gt4)) refl, row 0 _ (omega (arith, w.if-nb-gt4)) refl)
      | then-nb-gt4-via-else-nb-gt4+then-lies_outside w ↦
          let o = said true (lies_outside (length a.d.now) a.at a.nb) (sym w.if-lies_outside.true ∙ w.lies_outside.ensures) in
          (row 0 _ (omega (arith, o)) refl, row 0 _ (omega (arith, o)) refl)
    ]

pub loop-k-init : goal.loop-k-init
loop-k-init c = (refl, refl)

pub loop-k-preserved : goal.loop-k-preserved
loop-k-preserved c =
    let a = c.args in
    let l = c.loop-k in
    let o = said false (lies_outside (length a.d.now) a.at a.nb) (sym c.if-lies_outside.false ∙ c.lies_outside.ensures) in
    (simp length-set l.invariant.0, placed-low l.d a.at l.k l.v c.loop-k-test.true (omega (arith, o, l.auto, l.invariant.0)) ∙ l.invariant.1)

pub returns : goal.returns
unfolding fits written bytes
returns c =
    let a = c.args in
    let l = c.loop-k in
    let o = said false (lies_outside (length a.d.now) a.at a.nb) (sym c.if-lies_outside.false ∙ c.lies_outside.ensures) in
    let z : l.k ≡ 0 = omega arith in
    (row 1 _ (omega (arith, o)) refl, row 1 _ (omega (arith, o)) (sym (placed-none l.d a.at) ∙ rw z at l.invariant.1))
