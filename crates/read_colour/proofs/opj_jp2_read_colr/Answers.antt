use native.Mathlib.Omega.{arith}
use mathlib.Core.Path.{refl}
use Rattle.box_number.proofs.Rows.{row}
use Rattle.read_record.proofs.Told.{turned_down}
use Rattle.read_colour.specs.Colr.{colr}
use Rattle.read_colour.proofs.opj_jp2_read_colr.Goals as goal

pub returns-then-n-lt-FIELDS_BYTES : goal.returns-then-n-lt-FIELDS_BYTES
unfolding colr
returns-then-n-lt-FIELDS_BYTES c = turned_down c.refused.ensures (row 0 _ (omega arith) refl)

pub returns-then-j-ne0 : goal.returns-then-j-ne0
unfolding colr
returns-then-j-ne0 c = row 1 _ (omega arith) refl

pub returns-then-n-lt-ENUMERATED_BYTES : goal.returns-then-n-lt-ENUMERATED_BYTES
unfolding colr
returns-then-n-lt-ENUMERATED_BYTES c = turned_down c.refused-then-n-lt-ENUMERATED_BYTES.ensures (row 2 _ (omega arith) refl)

pub returns-then-k-eq-CIELAB : goal.returns-then-k-eq-CIELAB
unfolding colr
returns-then-k-eq-CIELAB c = row 3 _ (omega arith) (cc)

pub returns-else-k-eq-CIELAB : goal.returns-else-k-eq-CIELAB
unfolding colr
returns-else-k-eq-CIELAB c = row 4 _ (omega arith) (cc)

pub returns-in-2 : goal.returns-in-2
unfolding colr
returns-in-2 c = row 5 _ (omega arith) (cc)

pub returns-in_default : goal.returns-in_default
unfolding colr
returns-in_default c = row 6 _ (omega arith) (cc)
