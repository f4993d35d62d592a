use native.Mathlib.Omega.{arith}
use Prim.Native.Nat.{◌+◌, ◌*◌}
use mathlib.Core.Path.{◌∙◌}
use lib.ListN.{length}
use Rattle.box_number.specs.Number.{lies_outside}
use Rattle.read_palette.proofs.Entries.{rows-most}
use Rattle.picture_rules.specs.Finish.{palette_outside}
use Rattle.box_number.proofs.Answers.{same}
use Rattle.picture_check.proofs.Rows.{rows-file}
use Rattle.picture_check.proofs.bounds.palette_outside.Goals as goal

pub overflow_mul-entries : goal.overflow_mul-entries
overflow_mul-entries c = omega (arith, rows-most _ _ _ c.args.p.entries (omega arith) (omega arith) c.row_bytes-row.ensures)

pub overflow_add-columns : goal.overflow_add-columns
overflow_add-columns c = omega (arith, rows-most _ _ _ c.args.p.entries (omega arith) (omega arith) c.row_bytes-row.ensures)

pub returns-else-columns-gt-MOST_COLUMNS : goal.returns-else-columns-gt-MOST_COLUMNS
returns-else-columns-gt-MOST_COLUMNS c = let a = c.args in let e = rows-file a.f.now a.p.place a.p.columns a.p.entries c.part-s.ensures c.row_bytes-row.ensures in c.lies_outside.ensures ∙ same (lies_outside (length a.f.now) a.p.place (a.p.columns + a.p.entries * c.row_bytes-row.result)) (palette_outside c.args.f.now c.args.p) (λ h. omega arith) (λ h. omega arith)
