use native.Mathlib.Omega.{arith}
use mathlib.Core.Path.{refl}
use Rattle.box_number.proofs.Rows.{row}
use Rattle.read_record.proofs.Told.{turned_down}
use Rattle.read_channels.specs.Cdef.{cdef}
use Rattle.read_channels.proofs.opj_jp2_read_cdef.Goals as goal

pub returns-then-j-ne0 : goal.returns-then-j-ne0
unfolding cdef
returns-then-j-ne0 c = turned_down c.refused.ensures (row 0 _ (omega arith) refl)

pub returns-then-c-lt2 : goal.returns-then-c-lt2
unfolding cdef
returns-then-c-lt2 c = turned_down c.refused-then-c-lt2.ensures (row 1 _ (omega arith) refl)

pub returns-then-n-eq0 : goal.returns-then-n-eq0
unfolding cdef
returns-then-n-eq0 c = turned_down c.refused-then-n-eq0.ensures (row 2 _ (omega arith) refl)

pub returns-then-c-n : goal.returns-then-c-n
unfolding cdef
returns-then-c-n c = turned_down c.refused-then-c-n.ensures (row 3 _ (omega arith) refl)

pub returns : goal.returns
unfolding cdef
returns c = row 4 _ (omega arith) (cc)
