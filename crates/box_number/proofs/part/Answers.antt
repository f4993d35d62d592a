use native.Mathlib.Omega.{arith}
use mathlib.Core.Path.{◌≡◌, refl, sym}
use Rattle.box_number.proofs.Numbers.{part_none, part-past, part-over}
use lib.ListN.{length}
use Rattle.box_number.specs.Number.{part}
use Rattle.box_number.specs.Table.{◌<?◌}
use Rattle.box_number.proofs.Indices.{decide}
use Rattle.box_number.proofs.part.Goals.{then-end-start-via-then-end-start, then-end-start-via-else-end-start+then-s-start}
use Rattle.box_number.proofs.part.Goals as goal

pub returns-then-end-start : goal.returns-then-end-start
unfolding part
returns-then-end-start c =
    let a = c.args in
    elim c.then-end-start.branch [
      | then-end-start-via-then-end-start w ↦ sym (part_none a.s.now a.start a.end (omega (arith, w.if-end-start)))
      | then-end-start-via-else-end-start+then-s-start w ↦ sym (part-past a.s.now a.start a.end (omega (arith, w.if-s-start)))
    ]

pub returns : goal.returns
unfolding part
returns c =
    let a = c.args in
    decide (length a.s.now <? a.end)
    (λ h. let z : c.min.result ≡ length a.s.now = omega arith in rw z (sym (part-over a.s.now a.start a.end (omega arith))))
    (λ h. let z : c.min.result ≡ a.end = omega arith in rw z refl)
