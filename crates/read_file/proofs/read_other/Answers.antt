use native.Mathlib.Omega.{arith}
use mathlib.Core.Bool.{true, false}
use mathlib.Core.Path.{refl, sym, ap, ◌∙◌}
use Rattle.box_number.specs.Table.{◌≠?◌}
use Rattle.box_number.proofs.Rows.{row, said}
use Rattle.read_record.specs.declared.Jp2.{Jp2}
use Rattle.read_record.specs.State.{bit}
use Rattle.read_record.specs.Answer.{accepted}
use Rattle.read_file.proofs.read_other.Goals as goal

pub returns-then-not-has : goal.returns-then-not-has
returns-then-not-has c b e = let h = said false (bit 1 c.args.k.now.status.state ≠? 0) (sym c.has.ensures ∙ c.if-not-has.true) in rw (sym e) (row 0 _ (omega arith) refl)

pub returns-then-not-has-2 : goal.returns-then-not-has-2
returns-then-not-has-2 c b e =
    let h = said true (bit 1 c.args.k.now.status.state ≠? 0) (sym c.has.ensures ∙ c.if-not-has.false) in
    let i = said false (bit 2 c.args.k.now.status.state ≠? 0) (sym c.has-2.ensures ∙ c.if-not-has-2.true) in
    rw (sym e) (row 1 _ (omega arith) refl)

pub returns : goal.returns
returns c b e =
    let h = said true (bit 1 c.args.k.now.status.state ≠? 0) (sym c.has.ensures ∙ c.if-not-has.false) in
    let i = said true (bit 2 c.args.k.now.status.state ≠? 0) (sym c.has-2.ensures ∙ c.if-not-has-2.false) in
    row 2 _ (omega arith) (ap (λ (m : Jp2). accepted m) c.skip.ensures)
