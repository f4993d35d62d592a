use Rattle.std.proofs.Common.{◌≡◌, drop}
use Rattle.text.specs.Text.{joined}
use Rattle.text.proofs.Puts.{Left}
use Rattle.text.proofs.Shapes.{listed, gap}
use Rattle.text.proofs.join.Given as goal

abbrev pub invariant-loop-n : goal.invariant-loop-n
invariant-loop-n l =
    (l.before ≡ gap l.n-index l.between)
    × Left l.fn.d l.at (joined l.between l.numbers) l.d l.k (listed l.n-index l.between (drop l.n-index l.numbers))
