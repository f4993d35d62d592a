use Rattle.std.proofs.Common.{drop}
use Rattle.text.specs.Text.{filled}
use Rattle.text.proofs.Puts.{Left}
use Rattle.text.proofs.fill.Given as goal

abbrev pub invariant-loop-b : goal.invariant-loop-b
invariant-loop-b l = Left l.fn.d l.at (filled l.shape l.numbers) l.d l.k (filled (drop l.b-index l.shape) l.left)
