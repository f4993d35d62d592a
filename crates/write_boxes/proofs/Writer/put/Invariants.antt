use Rattle.write_boxes.proofs.Numbers.{First}
use Rattle.write_boxes.proofs.Writer.put.Given as goal

abbrev pub invariant-loop-nb : goal.invariant-loop-nb
invariant-loop-nb l = First l.initial.self l.numbers l.nb-index l.self
