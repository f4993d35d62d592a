use Rattle.std.proofs.Common.{sym, ap, ◌∙◌}
use Rattle.std.proofs.lemmas.Result.{err_from_is_err_and}
use Rattle.read_rules.specs.File.{walked}
use Rattle.picture_rules.specs.Finish.{finish}
use Rattle.picture_rules.specs.Whole.{handed}
use Rattle.picture_rules.proofs.Wholes.{reading-refused, reading-on, shows, shows-refused}
use Rattle.picture_finish.proofs.read_picture.Goals as goal

pub returns-in_err-m : goal.returns-in_err-m
returns-in_err-m c = let a = c.args in
    let h = handed a.file.now a.s a.comps.now a.count a.samples.now a.records.now a.planes.now in
    let p = err_from_is_err_and c.from_residual.result c.from_residual.ensures.1 in
    rw (p.1, p.2) (shows-refused h a.records.now a.planes.now (reading-refused h (ap walked (sym c.in_err-m.was) ∙ c.read_file.ensures.value)))

pub returns : goal.returns
returns c = let a = c.args in
    let h = handed a.file.now a.s a.comps.now a.count a.samples.now a.records.now a.planes.now in
    let r = c.in_ok-m.field-0 in
    shows h (finish h r.jp2) a.records.now a.planes.now (reading-on h r.end r.jp2 (ap walked (sym c.in_ok-m.was) ∙ c.read_file.ensures.value)) c.opj_jp2_apply_color_postprocessing.ensures
