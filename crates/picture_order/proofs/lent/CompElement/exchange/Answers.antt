use Rattle.std.proofs.Common.{arith}
use Rattle.picture_order.proofs.Numbered.{numbered-length, swap-numbered}
use Rattle.picture_order.proofs.lent.CompElement.exchange.Goals as goal

pub swap-requires-clause-a_in_bounds : goal.swap-requires-clause-a_in_bounds
swap-requires-clause-a_in_bounds c = omega (arith, numbered-length c.args.list.now)

pub swap-requires-clause-b_in_bounds : goal.swap-requires-clause-b_in_bounds
swap-requires-clause-b_in_bounds c = omega (arith, numbered-length c.args.list.now)

pub returns-clause-exchanged : goal.returns-clause-exchanged
returns-clause-exchanged c = rw c.swap.ensures.after (swap-numbered c.args.list.now c.args.p c.args.q (omega (arith, numbered-length c.args.list.now)) (omega (arith, numbered-length c.args.list.now)))

pub returns-clause-size : goal.returns-clause-size
returns-clause-size c = omega (arith, numbered-length c.args.list.now, numbered-length c.swap.new.self, c.swap.ensures.len)
