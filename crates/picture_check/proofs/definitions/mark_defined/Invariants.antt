use Rattle.std.proofs.Common.{ℕ, ◌<◌, ◌≡◌, false, length, get_or}
use Rattle.picture_check.specs.Private.Parts.{seen_after}
use Rattle.picture_check.proofs.definitions.mark_defined.Given as goal

abbrev pub invariant-loop-j : goal.invariant-loop-j
invariant-loop-j l = (c : ℕ) → c < length l.seen → get_or l.seen c false ≡ seen_after l.f l.l l.j c
