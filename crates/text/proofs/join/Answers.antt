use Rattle.std.proofs.Common.{ap, ◌++◌, get_or, arith}
use Rattle.text.specs.Text.{decimal}
use Rattle.text.proofs.Puts.{turn, done, puts-same}
use Rattle.text.proofs.Shapes.{gap-more, joined-turn, joined-past}
use Rattle.text.proofs.join.Goals as goal

pub loop-n-preserved : goal.loop-n-preserved
loop-n-preserved c =
    let l = c.loop-n in (
      gap-more l.n-index c.args.between.now,
      turn _ l.invariant.1 (joined-turn c.args.between.now c.args.numbers.now l.n-index (omega arith)) (puts-same _ _ (ap (λ x. x ++ decimal (get_or c.args.numbers.now l.n-index 0)) l.invariant.0) c.item-k.ensures),
    )

pub returns : goal.returns
returns c = done c.loop-n.invariant.1 (joined-past c.args.between.now c.args.numbers.now _ (omega arith))
