use mathlib.Core.Path.{◌≡◌}
use lib.ListN.{length}
use Rattle.box_number.specs.Number.{bytes, placed}
use Rattle.box_number.proofs.opj_write_bytes.Given as goal

abbrev pub invariant-loop-k : goal.invariant-loop-k
invariant-loop-k l = (length l.d ≡ length l.initial.d) × (placed l.d l.at (bytes l.k l.v) ≡ placed l.initial.d l.at (bytes l.nb l.value))
