use native.Mathlib.Omega.{arith}
use mathlib.Core.Path.{refl}
use Rattle.box_number.proofs.Rows.{row}
use Rattle.read_record.proofs.Told.{turned_down}
use Rattle.read_channels.specs.Cmap.{cmap}
use Rattle.read_channels.proofs.opj_jp2_read_cmap.Goals as goal

pub returns-then-columns-eq0 : goal.returns-then-columns-eq0
unfolding cmap
returns-then-columns-eq0 c = turned_down c.refused.ensures (row 0 _ (omega arith) refl)

pub returns-then-j-ne0 : goal.returns-then-j-ne0
unfolding cmap
returns-then-j-ne0 c = turned_down c.refused-then-j-ne0.ensures (row 1 _ (omega arith) refl)

pub returns-then-c-columns : goal.returns-then-c-columns
unfolding cmap
returns-then-c-columns c = turned_down c.refused-then-c-columns.ensures (row 2 _ (omega arith) refl)

pub returns : goal.returns
unfolding cmap
returns c = row 3 _ (omega arith) refl
