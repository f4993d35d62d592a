use Rattle.std.proofs.Common.{arith}
use Rattle.jp2info.proofs.Quotes.{going_end}
use Rattle.jp2info.proofs.quote.quote.Goals as goal

pub returns : goal.returns
returns c = going_end c.loop-rest.invariant (grind arith)
