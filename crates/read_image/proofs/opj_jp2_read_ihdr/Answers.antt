use native.Mathlib.Omega.{arith}
use mathlib.Core.Path.{refl}
use Rattle.box_number.proofs.Rows.{row}
use Rattle.read_record.proofs.Told.{turned_down}
use Rattle.read_image.specs.Ihdr.{ihdr}
use Rattle.read_image.proofs.opj_jp2_read_ihdr.Goals as goal

pub returns-then-j-ne0 : goal.returns-then-j-ne0
unfolding ihdr
returns-then-j-ne0 c = row 0 _ (omega arith) refl

pub returns-then-c-ne-IHDR_BYTES : goal.returns-then-c-ne-IHDR_BYTES
unfolding ihdr
returns-then-c-ne-IHDR_BYTES c = turned_down c.refused.ensures (row 1 _ (omega arith) refl)

pub returns-then-h-eq0 : goal.returns-then-h-eq0
unfolding ihdr
returns-then-h-eq0 c = turned_down c.refused-then-h-eq0.ensures (row 2 _ (omega arith) refl)

pub returns-then-w-eq0 : goal.returns-then-w-eq0
unfolding ihdr
returns-then-w-eq0 c = turned_down c.refused-then-w-eq0.ensures (row 2 _ (omega arith) refl)

pub returns-then-numcomps-eq0 : goal.returns-then-numcomps-eq0
unfolding ihdr
returns-then-numcomps-eq0 c = turned_down c.refused-then-numcomps-eq0.ensures (row 2 _ (omega arith) refl)

pub returns-then-numcomps-gt-MOST_COMPONENTS : goal.returns-then-numcomps-gt-MOST_COMPONENTS
unfolding ihdr
returns-then-numcomps-gt-MOST_COMPONENTS c = turned_down c.refused-then-numcomps-gt-MOST_COMPONENTS.ensures (row 3 _ (omega arith) refl)

pub returns : goal.returns
unfolding ihdr
returns c = row 4 _ (omega (arith, c.if-j-ne0.false)) (cc)
