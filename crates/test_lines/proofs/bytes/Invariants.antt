use Rattle.std.proofs.Common.{◌≡◌}
use Rattle.test_lines.proofs.bytes.Given as goal

abbrev pub invariant-loop-b : goal.invariant-loop-b
invariant-loop-b g l = l.n ≡ l.b-index
