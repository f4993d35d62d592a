use native.Mathlib.Omega.{arith}
use mathlib.Core.Path.{refl}
use Rattle.box_number.proofs.Placing.{placing_more, placing_whole}
use Rattle.write_boxes.proofs.copy.Goals as goal

pub loop-k-preserved : goal.loop-k-preserved
loop-k-preserved c = let a = c.args in
    let l = c.loop-k in
    placing_more a.d.now a.at a.src.now l.d l.k 0 _ l.invariant (omega arith) (omega arith) refl

pub returns : goal.returns
returns c = let a = c.args in
    let l = c.loop-k in
    placing_whole a.d.now a.at a.src.now l.d l.k l.invariant (omega arith)
