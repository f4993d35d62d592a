use Rattle.read_palette.proofs.Entries.{rows-most, rows_same}
use native.Mathlib.Omega.{arith}
use mathlib.Core.Path.{refl}
use Rattle.box_number.proofs.Rows.{row}
use Rattle.read_record.proofs.Told.{turned_down}
use Rattle.read_palette.specs.Pclr.{pclr}
use Rattle.read_palette.proofs.opj_jp2_read_pclr.Goals as goal

pub returns-then-j-ne0 : goal.returns-then-j-ne0
unfolding pclr
returns-then-j-ne0 c = turned_down c.refused.ensures (row 0 _ (omega arith) refl)

pub returns-then-c-lt-COUNTS_BYTES : goal.returns-then-c-lt-COUNTS_BYTES
unfolding pclr
returns-then-c-lt-COUNTS_BYTES c = turned_down c.refused-then-c-lt-COUNTS_BYTES.ensures (row 1 _ (omega arith) refl)

pub returns-then-entries-eq0 : goal.returns-then-entries-eq0
unfolding pclr
returns-then-entries-eq0 c = turned_down c.refused-then-entries-eq0.ensures (row 2 _ (omega arith) refl)

pub returns-then-entries-gt-MOST_ENTRIES : goal.returns-then-entries-gt-MOST_ENTRIES
unfolding pclr
returns-then-entries-gt-MOST_ENTRIES c = turned_down c.refused-then-entries-gt-MOST_ENTRIES.ensures (row 2 _ (omega arith) refl)

pub returns-then-columns-eq0 : goal.returns-then-columns-eq0
unfolding pclr
returns-then-columns-eq0 c = turned_down c.refused-then-columns-eq0.ensures (row 2 _ (omega arith) refl)

pub overflow_mul-entries : goal.overflow_mul-entries
overflow_mul-entries c = omega (arith, rows-most _ _ _ c.read_u16-entries.result (omega arith) (omega arith) c.row_bytes-row.ensures)

pub overflow_add-columns-2 : goal.overflow_add-columns-2
overflow_add-columns-2 c = omega (arith, rows-most _ _ _ c.read_u16-entries.result (omega arith) (omega arith) c.row_bytes-row.ensures)

pub returns-then-c-columns : goal.returns-then-c-columns
unfolding pclr
returns-then-c-columns c = let all = rows_same _ c.read_u16-entries.ensures c.read_u8-columns.ensures c.row_bytes-row.ensures in turned_down c.refused-then-c-columns.ensures (row 3 _ (omega (arith, c.if-c-lt-COUNTS_BYTES.false)) refl)

pub returns : goal.returns
unfolding pclr
returns c = let all = rows_same _ c.read_u16-entries.ensures c.read_u8-columns.ensures c.row_bytes-row.ensures in row 4 _ (omega (arith, c.if-c-lt-COUNTS_BYTES.false)) (cc)
