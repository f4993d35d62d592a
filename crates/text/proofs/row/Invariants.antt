use Rattle.std.proofs.Common.{◌≡◌, drop}
use Rattle.text.specs.Text.{joined}
use Rattle.text.specs.Row.{values}
use Rattle.text.proofs.Puts.{Left}
use Rattle.text.proofs.Shapes.{listed, gap}
use Rattle.text.proofs.row.Given as goal

abbrev pub invariant-loop-depth : goal.invariant-loop-depth
invariant-loop-depth l =
    (l.before ≡ gap l.depth-index l.between)
    × Left l.fn.d l.at (joined l.between (values l.depths l.c)) l.d l.k (listed l.depth-index l.between (values (drop l.depth-index l.depths) l.rest))
