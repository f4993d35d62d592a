use Rattle.std.proofs.Common.{◌≡◌, length}
use Rattle.read_channels.specs.Definitions.{definitions_to}
use Rattle.picture_rules.specs.Order.{arranged}
use Rattle.picture_order.specs.Flat.{number_at}
use Rattle.picture_order.specs.Private.Steps.{Agree}
use Rattle.picture_order.proofs.run.reorder_within.Given as goal

-- before definition k: the lists say what the first k definitions make of the records
abbrev pub invariant-loop-k : goal.invariant-loop-k
invariant-loop-k g l = record {
  count : l.positions.n ≡ l.n;
  size : length (g.E.Element.numbers l.recs) ≡ length (g.E.Element.numbers l.initial.recs);
  agree : Agree l.n (g.E.Element.numbers l.recs) l.positions.positions (arranged l.d.edition2 l.n (definitions_to l.f l.d.cdef l.k) (number_at (g.E.Element.numbers l.initial.recs)));
}
