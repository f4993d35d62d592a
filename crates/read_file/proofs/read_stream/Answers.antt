use mathlib.Core.Bool.{true, false}
use mathlib.Core.Path.{refl, sym, ◌∙◌}
use Rattle.box_number.specs.Table.{◌≠?◌}
use Rattle.box_number.proofs.Rows.{row, said}
use Rattle.read_record.specs.State.{header_bit}
use Rattle.read_file.proofs.read_stream.Goals as goal

pub returns-then-not-has : goal.returns-then-not-has
returns-then-not-has c = rw c.refused.ensures (row 0 _ (said false (header_bit c.args.k ≠? 0) (sym c.has.ensures ∙ c.if-not-has.true)) refl)

pub returns : goal.returns
returns c = row 1 _ (said true (header_bit c.args.k ≠? 0) (sym c.has.ensures ∙ c.if-not-has.false), tt) (cc)
