use Rattle.read_jp2h.proofs.Going.{Going, turns}
use Rattle.read_jp2h.proofs.Ways.{whole, lack}
use Rattle.read_jp2h.proofs.read_boxes.Given as goal

abbrev pub invariant-loop-b : goal.invariant-loop-b
invariant-loop-b l = Going l.ty l.at.place (whole l.ty l.at.place l.at.start l.c l.initial.k l.alone) (lack l.at.start l.c l.alone) l.lone l.place l.rest l.lacks l.k

abbrev pub decreases-loop-b : goal.decreases-loop-b
decreases-loop-b l = turns l.lone l.rest
