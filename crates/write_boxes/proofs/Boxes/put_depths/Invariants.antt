use Rattle.write_rules.specs.Bpcc.{bpcc_content}
use Rattle.write_boxes.specs.Private.Writing.{Puts}
use Rattle.write_boxes.proofs.Boxes.put_depths.Given as goal

abbrev pub invariant-loop-c : goal.invariant-loop-c
invariant-loop-c l = Puts l.initial.out l.out (bpcc_content l.self.comps.now l.c) l.c
