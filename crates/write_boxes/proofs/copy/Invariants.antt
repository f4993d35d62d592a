use Rattle.box_number.proofs.Placing.{Placing}
use Rattle.write_boxes.proofs.copy.Given as goal

abbrev pub invariant-loop-k : goal.invariant-loop-k
invariant-loop-k l = Placing l.initial.d l.at l.src l.d l.k
