use Rattle.std.proofs.Common.{sym, ◌∙◌}
use Rattle.picture_order.proofs.Checking.{refuses, passes, nothing}
use Rattle.picture_order.proofs.run.apply.Goals as goal

pub returns-then-reorder_outside : goal.returns-then-reorder_outside
returns-then-reorder_outside g c =
    let a = c.args in
    refuses a.d.edition2 a.f.now a.d.cdef a.n (g.E.Element.numbers a.recs.now) (sym c.if-reorder_outside.true ∙ c.reorder_outside.ensures)

pub returns-then-n-eq0 : goal.returns-then-n-eq0
returns-then-n-eq0 g c =
    let a = c.args in
    nothing a.d.edition2 a.f.now a.d.cdef a.n (g.E.Element.numbers a.recs.now) (sym c.if-reorder_outside.false ∙ c.reorder_outside.ensures) c.then-n-eq0.either

pub returns-then-n-le-FEW : goal.returns-then-n-le-FEW
returns-then-n-le-FEW g c =
    let a = c.args in
    passes a.d.edition2 a.f.now a.d.cdef a.n (g.E.Element.numbers a.recs.now) (sym c.if-reorder_outside.false ∙ c.reorder_outside.ensures) c.reorder_within.ensures

pub returns-then-n-le-SOME : goal.returns-then-n-le-SOME
returns-then-n-le-SOME g c =
    let a = c.args in
    passes a.d.edition2 a.f.now a.d.cdef a.n (g.E.Element.numbers a.recs.now) (sym c.if-reorder_outside.false ∙ c.reorder_outside.ensures) c.reorder_within-then-n-le-SOME.ensures

pub returns-else-n-le-SOME : goal.returns-else-n-le-SOME
returns-else-n-le-SOME g c =
    let a = c.args in
    passes a.d.edition2 a.f.now a.d.cdef a.n (g.E.Element.numbers a.recs.now) (sym c.if-reorder_outside.false ∙ c.reorder_outside.ensures) c.reorder_within-else-n-le-SOME.ensures
