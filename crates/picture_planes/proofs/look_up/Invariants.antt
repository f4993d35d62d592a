use Rattle.std.proofs.Common.{◌≡◌, ℕ, ◌*◌, ◌<◌, List, ℤ, pos, get_or}
use Rattle.picture_planes.specs.Private.Entry.{entry_for}
use Rattle.picture_planes.proofs.look_up.Given as goal

-- the first n samples are looked up
abbrev First : List ℤ → List ℤ → List ℤ → ℕ → Type 0
First entries src dst n = (i : ℕ) → i < n → get_or dst i (pos 0) ≡ entry_for entries (get_or src i (pos 0))

abbrev pub invariant-loop-i : goal.invariant-loop-i
invariant-loop-i l = First l.entries l.src l.dst (4 * l.i)

abbrev pub invariant-loop-j : goal.invariant-loop-j
invariant-loop-j l = First l.entries l.src l.dst l.j

abbrev pub invariant-loop-k : goal.invariant-loop-k
invariant-loop-k l = First l.entries l.src l.dst l.k
