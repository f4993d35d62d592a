use Rattle.std.proofs.Common.{arith, rules, length, ◌<◌}
use Rattle.picture_order.proofs.Numbered.{numbered-length, marked-numbered}
use Rattle.picture_order.proofs.lent.CompElement.mark.Goals as goal

pub bounds-list-p : goal.bounds-list-p
bounds-list-p c = omega (arith, numbered-length c.args.list.now)

pub offset_bounds-list-p : goal.offset_bounds-list-p
offset_bounds-list-p c = let h : c.args.p < length c.args.list.now = omega (arith, numbered-length c.args.list.now) in search rules

pub returns : goal.returns
returns c = rw c.from.ensures (marked-numbered c.args.list.now c.args.p c.args.t (omega (arith, numbered-length c.args.list.now)))
