use lib.ListN.{drop}
use Rattle.box_number.proofs.Placing.{Placing}
use Rattle.picture_planes.proofs.copy_inside.Given as goal

abbrev pub invariant-loop-k : goal.invariant-loop-k
invariant-loop-k l = Placing l.initial.dst l.at (drop l.from l.src) l.dst l.k
