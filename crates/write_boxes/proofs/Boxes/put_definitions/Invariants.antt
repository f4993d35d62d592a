use Rattle.std.proofs.Common.{◌*◌}
use Rattle.write_rules.specs.Cdef.{cdef_entries}
use Rattle.write_boxes.specs.Private.Writing.{Puts}
use Rattle.write_boxes.proofs.Boxes.put_definitions.Given as goal

abbrev pub invariant-loop-c : goal.invariant-loop-c
invariant-loop-c l = Puts l.initial.out l.out (cdef_entries l.self.comps.now l.self.fields.colours l.c) (6 * l.c)
