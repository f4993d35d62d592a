use Rattle.std.proofs.Common.{ap, ◌++◌, arith}
use Rattle.text.specs.Text.{decimal}
use Rattle.text.proofs.Puts.{turn, done, puts-same}
use Rattle.text.proofs.Shapes.{gap-more, row-turn, row-past}
use Rattle.text.proofs.row.Goals as goal

pub loop-depth-preserved : goal.loop-depth-preserved
loop-depth-preserved c =
    let l = c.loop-depth in (
      gap-more l.depth-index c.args.between.now,
      turn _ l.invariant.1 (row-turn c.args.between.now c.args.depths.now l.rest.now l.depth-index (omega arith) c.entry_bytes-size.ensures c.opj_read_bytes.ensures c.min.ensures) (puts-same _ _ (ap (λ x. x ++ decimal c.opj_read_bytes.result) l.invariant.0) c.item-k.ensures),
    )

pub returns : goal.returns
returns c = done c.loop-depth.invariant.1 (row-past c.args.between.now c.args.depths.now _ _ (omega arith))
