use lib.ListN.{length}
use Rattle.read_jp2h.specs.Split.{boxes}
use Rattle.read_rules.specs.File.{run}
use Rattle.read_file.proofs.Walking.{Going}
use Rattle.read_file.proofs.opj_jp2_read_header_procedure.Given as goal

abbrev pub invariant-loop-found : goal.invariant-loop-found
invariant-loop-found l = Going (run (boxes 0 l.s) l.fn.j) l.at l.rest l.k

abbrev pub decreases-loop-found : goal.decreases-loop-found
decreases-loop-found l = length l.rest
