use Prim.Native.Nat.{◌*◌}
use Rattle.box_number.proofs.Placing.{Placing}
use Rattle.picture_finish.specs.Private.Parts.{record_at}
use Rattle.picture_finish.proofs.Passed.pack_record.Given as goal

abbrev pub invariant-loop-k : goal.invariant-loop-k
invariant-loop-k l = Placing l.initial.records (13 * l.c) (record_at l.b l.self.m.lists.cmap.count l.self.lent.now l.r l.start) l.records l.k
