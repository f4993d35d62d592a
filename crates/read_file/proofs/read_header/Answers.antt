use mathlib.Core.Bool.{true, false}
use mathlib.Core.Path.{sym, ap, ◌∙◌}
use Rattle.box_number.proofs.Rows.{row, said}
use Rattle.read_record.specs.declared.Jp2.{Jp2}
use Rattle.read_record.specs.Answer.{accepted}
use Rattle.read_file.specs.Private.Turn.{is_early, header_or_skipped}
use Rattle.read_file.proofs.read_header.Goals as goal

pub returns-then-is_early : goal.returns-then-is_early
unfolding header_or_skipped
returns-then-is_early c = let a = c.args in let e = said true (is_early a.ty a.k.now.status.state) (sym c.is_early.ensures ∙ c.if-is_early.true) in row 0 _ e (ap (λ (m : Jp2). accepted m) c.skip.ensures)

pub returns : goal.returns
unfolding header_or_skipped
returns c = let a = c.args in let e = said false (is_early a.ty a.k.now.status.state) (sym c.is_early.ensures ∙ c.if-is_early.false) in row 1 _ (e, tt) c.take_header_box.ensures.0
