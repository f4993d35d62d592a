use Rattle.std.proofs.Common.{length}
use Rattle.jp2info.specs.Quote.{quoted}
use Rattle.jp2info.proofs.Quotes.{Going}
use Rattle.jp2info.proofs.quote.quote.Given as goal

abbrev pub invariant-loop-rest : goal.invariant-loop-rest
invariant-loop-rest l = Going l.fn.d l.at (quoted l.json l.s) l.json l.d l.k l.rest

abbrev pub decreases-loop-rest : goal.decreases-loop-rest
decreases-loop-rest l = length l.rest
