use Rattle.std.proofs.Common.{◌-◌, ◌≤◌, length, take}
use Rattle.std.specs.Io.KnownBytes.{Consumes}
use Rattle.text.proofs.input.read_full.Given as goal

abbrev pub invariant-loop-n : goal.invariant-loop-n
invariant-loop-n g l = (l.n ≤ length l.d) × Consumes (g.I.Read.remaining l.fn.input) (g.I.Read.remaining l.input) (take l.n l.d)

abbrev pub decreases-loop-n : goal.decreases-loop-n
decreases-loop-n g l = length l.d - l.n
