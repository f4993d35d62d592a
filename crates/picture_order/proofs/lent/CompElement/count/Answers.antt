use Rattle.std.proofs.Common.{arith}
use Rattle.picture_order.proofs.Numbered.{numbered-length}
use Rattle.picture_order.proofs.lent.CompElement.count.Goals as goal

pub returns : goal.returns
returns c = omega (arith, numbered-length c.args.list.now)
