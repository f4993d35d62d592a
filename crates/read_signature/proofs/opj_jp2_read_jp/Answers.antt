use native.Mathlib.Omega.{arith}
use mathlib.Core.Path.{refl}
use Rattle.box_number.proofs.Rows.{row}
use Rattle.read_record.proofs.Told.{turned_down}
use Rattle.read_signature.specs.Signature.{signature}
use Rattle.read_signature.proofs.opj_jp2_read_jp.Goals as goal

pub returns-then-j-ne0 : goal.returns-then-j-ne0
unfolding signature
returns-then-j-ne0 c = turned_down c.refused.ensures (row 0 _ (omega arith) refl)

pub returns-then-c-ne4 : goal.returns-then-c-ne4
unfolding signature
returns-then-c-ne4 c = turned_down c.refused-then-c-ne4.ensures (row 0 _ (omega arith) refl)

pub returns-then-read_u32-ne-SIGNATURE : goal.returns-then-read_u32-ne-SIGNATURE
unfolding signature
returns-then-read_u32-ne-SIGNATURE c = turned_down c.refused-then-read_u32-ne-SIGNATURE.ensures (row 0 _ (omega arith) refl)

pub returns : goal.returns
unfolding signature
returns c = row 1 _ (omega arith) refl
