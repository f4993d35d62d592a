use mathlib.Core.Path.{sym, ap, ◌∙◌}
use Rattle.std.proofs.lemmas.Result.{err_from_is_err_and}
use Rattle.box_refusal.specs.Told.{told}
use Rattle.picture_rules.specs.Finish.{finish}
use Rattle.picture_rules.specs.Whole.{handed}
use Rattle.picture_rules.proofs.Wholes.{declined-done}
use Rattle.picture_finish.proofs.Finishes.{entry-refused, entry-passed}
use Rattle.picture_finish.proofs.opj_jp2_apply_color_postprocessing.Goals as goal

pub invariant_of-passed : goal.invariant_of-passed
invariant_of-passed c = let a = c.args in
    let h = handed a.f.now a.s a.comps.now a.count a.samples.now a.records.now a.planes.now in
    let y = entry-passed h a.m (ap told (sym c.in_ok-checked.was) ∙ c.opj_jp2_check_color.ensures) in
    rw c.counted.ensures (record { tested = y.tested; all = y.all; flags = y.flags })

pub returns-in_err-checked : goal.returns-in_err-checked
returns-in_err-checked c = let a = c.args in
    let h = handed a.f.now a.s a.comps.now a.count a.samples.now a.records.now a.planes.now in
    let p = err_from_is_err_and c.from_residual.result c.from_residual.ensures.1 in
    rw (p.1, p.2) (declined-done (finish h a.m) a.records.now a.planes.now (entry-refused h a.m (ap told (sym c.in_err-checked.was) ∙ c.opj_jp2_check_color.ensures)))

pub returns : goal.returns
returns c = let a = c.args in
    let h = handed a.f.now a.s a.comps.now a.count a.samples.now a.records.now a.planes.now in
    let y = entry-passed h a.m (ap told (sym c.in_ok-checked.was) ∙ c.opj_jp2_check_color.ensures) in
    rw (y.on, ← c.counted.ensures) c.colour.ensures
