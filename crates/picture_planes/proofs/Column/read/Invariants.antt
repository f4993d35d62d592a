use Rattle.std.proofs.Common.{◌≡◌, ℕ, ◌<◌, pos, get_or}
use Rattle.picture_planes.specs.Column.{entry_at}
use Rattle.picture_planes.proofs.Column.read.Given as goal

abbrev pub invariant-loop-j : goal.invariant-loop-j
invariant-loop-j l = (i : ℕ) → i < l.j → get_or l.out i (pos 0) ≡ entry_at l.s l.self i
