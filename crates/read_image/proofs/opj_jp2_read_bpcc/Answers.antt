use native.Mathlib.Omega.{arith}
use mathlib.Core.Path.{refl}
use Rattle.box_number.proofs.Rows.{row}
use Rattle.read_record.proofs.Told.{turned_down}
use Rattle.read_image.specs.Bpcc.{bpcc}
use Rattle.read_image.proofs.opj_jp2_read_bpcc.Goals as goal

pub returns-then-c-j : goal.returns-then-c-j
unfolding bpcc
returns-then-c-j c = turned_down c.refused.ensures (row 0 _ (omega arith) refl)

pub returns : goal.returns
unfolding bpcc
returns c = row 1 _ (omega arith) refl
