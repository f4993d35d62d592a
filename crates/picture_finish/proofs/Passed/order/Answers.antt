use native.Mathlib.Omega.{arith}
use mathlib.Core.Path.{refl, sym, ◌∙◌}
use Rattle.box_number.proofs.Rows.{row}
use Rattle.picture_order.specs.Flat.{afterwards}
use Rattle.picture_order.proofs.Fronts.{reordered-none}
use Rattle.picture_finish.proofs.Rooms.{channels-most}
use Rattle.picture_finish.proofs.Passed.order.Goals as goal

pub returns-then-cdef-eq0 : goal.returns-then-cdef-eq0
returns-then-cdef-eq0 c = let a = c.args in
    let o = a.self.now in
    reordered-none a.edition2 o.f.now o.m.lists.cdef o.checked.channels a.records.now (omega arith) c.requires

pub returns : goal.returns
unfolding afterwards
returns c = let o = c.args.self.now in
    c.opj_jp2_apply_cdef.ensures.1 ∙ sym (row 1 _ ((omega (arith, o.all, channels-most o.f.now o.m o.lent.now o.tested), (c.requires, o.tested.file.1.1)), tt) refl)
