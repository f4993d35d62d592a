use mathlib.Core.Path.{◌≡◌, sym, ap, ◌∙◌}
use lib.ListN.{length}
use Rattle.std.proofs.lemmas.Result.{err_from_is_err_and}
use Rattle.box_refusal.specs.Told.{told}
use Rattle.picture_rules.specs.Finish.{fitted}
use Rattle.picture_finish.proofs.Rooms.{planes_are}
use Rattle.picture_finish.proofs.Colours.{refused-done, long-enough, finished-done}
use Rattle.picture_finish.proofs.Passed.colour.Goals as goal

pub opj_jp2_apply_pclr-requires : goal.opj_jp2_apply_pclr-requires
opj_jp2_apply_pclr-requires c = let a = c.args in
    let o = a.self.now in
    let y = (planes_are o.f.now o.m o.lent.now (length a.records.now) (length a.planes.now) a.edition2 (ap told (sym c.in_ok-n.was) ∙ c.room.ensures a.edition2)).1 in
    let e : o.checked.channels ≡ c.in_ok-n.n = o.all ∙ sym y.all in
    rw e y

pub order-requires : goal.order-requires
order-requires c = let a = c.args in
    let o = a.self.now in
    long-enough a.edition2 o.f.now o.m o.lent.now a.records.now o.all c.opj_jp2_apply_pclr.ensures.records_after

pub returns-in_err-n : goal.returns-in_err-n
returns-in_err-n c = let a = c.args in
    let o = a.self.now in
    let p = err_from_is_err_and c.from_residual.result c.from_residual.ensures.1 in
    rw (p.1, p.2)
    (refused-done (fitted a.edition2 o.f.now o.m o.lent.now (length a.records.now) (length a.planes.now)) a.records.now a.planes.now (ap told (sym c.in_err-n.was) ∙ c.room.ensures a.edition2))

pub returns : goal.returns
returns c = let a = c.args in
    let o = a.self.now in
    let y = planes_are o.f.now o.m o.lent.now (length a.records.now) (length a.planes.now) a.edition2 (ap told (sym c.in_ok-n.was) ∙ c.room.ensures a.edition2) in
    let p = c.opj_jp2_apply_pclr.ensures in
    let e : c.in_ok-n.n ≡ o.checked.channels = y.1.all ∙ sym o.all in
    finished-done a.edition2 o.f.now o.m o.lent.now (fitted a.edition2 o.f.now o.m o.lent.now (length a.records.now) (length a.planes.now)) y.0 y.1.all p.records_after (rw e c.order.ensures) p.planes_after
