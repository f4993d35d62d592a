use Rattle.std.proofs.Common.{refl, arith}
use Rattle.write_boxes.proofs.Pieces.{none}
use Rattle.write_boxes.proofs.Numbers.{has_room, next, all}
use Rattle.write_boxes.proofs.Writer.put.Goals as goal

pub loop-nb-init : goal.loop-nb-init
loop-nb-init c = none c.args.self.now

pub overflow_add-self : goal.overflow_add-self
overflow_add-self c = let a = c.args in omega (arith, c.loop-nb.invariant.place, has_room a.self.now a.numbers.now c.loop-nb.nb-index (0, 0) (omega arith) c.requires.room)

pub loop-nb-preserved : goal.loop-nb-preserved
loop-nb-preserved c = let a = c.args in
    next a.self.now a.numbers.now c.loop-nb.nb-index (0, 0) (omega arith) c.requires.room c.requires.at_most_4 c.loop-nb.invariant refl refl c.opj_write_bytes.ensures.1

pub returns : goal.returns
returns c = let a = c.args in all a.self.now a.numbers.now c.loop-nb.nb-index (omega arith) c.loop-nb.invariant
