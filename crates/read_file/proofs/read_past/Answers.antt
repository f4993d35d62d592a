use mathlib.Core.Bool.{true, false}
use mathlib.Core.Path.{refl, sym, ap, ◌∙◌}
use Rattle.std.proofs.lemmas.Result.{err_from_is_err_and}
use Rattle.box_number.proofs.Rows.{row, said}
use Rattle.read_record.specs.Answer.{Result}
use Rattle.read_rules.specs.File.{is_read, ended, then_walk}
use Rattle.read_file.specs.Private.Turn.{box_at}
use Rattle.read_file.proofs.read_past.Goals as goal

pub returns-then-is_read : goal.returns-then-is_read
returns-then-is_read c = let r = said true (is_read c.args.ty) (sym c.is_read.ensures ∙ c.if-is_read.true) in row 0 _ r refl

pub returns-in_err-read_other : goal.returns-in_err-read_other
returns-in_err-read_other c =
    let a = c.args in
    let r = said false (is_read a.ty) (sym c.is_read.ensures ∙ c.if-is_read.false) in
    let p = err_from_is_err_and c.from_residual.result c.from_residual.ensures.1 in
    rw (p.1, p.2) (row 1 _ (r, tt) (ap (λ (x : Result). then_walk x ended) (c.in_err-read_other.ensures (box_at a.ty a.place 0) refl)))

pub returns : goal.returns
returns c =
    let a = c.args in
    let r = said false (is_read a.ty) (sym c.is_read.ensures ∙ c.if-is_read.false) in
    row 1 _ (r, tt) (ap (λ (x : Result). then_walk x ended) (c.in_ok-read_other.ensures (box_at a.ty a.place 0) refl))
