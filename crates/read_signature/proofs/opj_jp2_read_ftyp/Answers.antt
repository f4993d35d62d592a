use native.Mathlib.Omega.{arith}
use mathlib.Core.Path.{refl}
use Rattle.box_number.proofs.Rows.{row}
use Rattle.read_record.proofs.Told.{turned_down}
use Rattle.read_signature.specs.FileType.{file_type}
use Rattle.read_signature.proofs.opj_jp2_read_ftyp.Goals as goal

pub returns-then-j-ne-SIGNATURE_READ : goal.returns-then-j-ne-SIGNATURE_READ
unfolding file_type
returns-then-j-ne-SIGNATURE_READ c = turned_down c.refused.ensures (row 0 _ (omega arith) refl)

pub returns-then-n-lt-BRAND_BYTES : goal.returns-then-n-lt-BRAND_BYTES
unfolding file_type
returns-then-n-lt-BRAND_BYTES c = turned_down c.refused-then-n-lt-BRAND_BYTES.ensures (row 0 _ (omega arith) refl)

pub returns-then-n-ne0 : goal.returns-then-n-ne0
unfolding file_type
returns-then-n-ne0 c = turned_down c.refused-then-n-ne0.ensures (row 0 _ (omega arith) refl)

pub returns : goal.returns
unfolding file_type
returns c = row 1 _ (omega arith) (cc)
