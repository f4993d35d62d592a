use native.Mathlib.Omega.{arith}
use lib.ListN.{get_or}
use mathlib.Core.Path.{refl, sym, ap, subst, ◌∙◌}
use Rattle.box_refusal.specs.Told.{HasNumber}
use mathlib.Core.Bool.{true, false}
use Rattle.box_number.proofs.Rows.{said}
use Rattle.picture_rules.specs.Finish.{finish}
use Rattle.picture_rules.specs.Whole.{handed}
use Rattle.export_rules.specs.FinishReading.{no_reading}
use Rattle.picture_rules.proofs.Wholes.{declined-done}
use Rattle.export_rules.proofs.FinishReading.{none, refused, on}
use Rattle.export_rules.proofs.TwoSteps.{finishes}
use Rattle.cuzhantir.proofs.Accepted.{taken, bytes}
use Rattle.cuzhantir.proofs.readings.finish_reading.Goals as goal

pub returns-then-no_reading : goal.returns-then-no_reading
returns-then-no_reading c = let a = c.args in
    let h = handed a.file.now a.s a.comps.now a.count a.samples.now a.records.now a.planes.now in
    let is = none h a.reading.now (said true (no_reading a.reading.now) (sym c.no_reading.ensures ∙ c.if-no_reading.true)) in
    finishes h a.reading.now _ a.records.now a.planes.now (bytes a.file.now c.shared_slice_known-1.given) is (declined-done _ a.records.now a.planes.now refl)

pub bounds-reading-0 : goal.bounds-reading-0
bounds-reading-0 c = let a = c.args in let t = taken a.reading.now (said false (no_reading a.reading.now) (sym c.no_reading.ensures ∙ c.if-no_reading.false)) in omega (arith, t.long)

pub bounds-reading-1 : goal.bounds-reading-1
bounds-reading-1 c = let a = c.args in let t = taken a.reading.now (said false (no_reading a.reading.now) (sym c.no_reading.ensures ∙ c.if-no_reading.false)) in omega (arith, t.long)

pub bounds-reading-2 : goal.bounds-reading-2
bounds-reading-2 c = let a = c.args in let t = taken a.reading.now (said false (no_reading a.reading.now) (sym c.no_reading.ensures ∙ c.if-no_reading.false)) in omega (arith, t.long)

pub returns-then-reading-eq-REFUSED : goal.returns-then-reading-eq-REFUSED
returns-then-reading-eq-REFUSED c = let a = c.args in
    let h = handed a.file.now a.s a.comps.now a.count a.samples.now a.records.now a.planes.now in
    let f = said false (no_reading a.reading.now) (sym c.no_reading.ensures ∙ c.if-no_reading.false) in
    let is = refused h a.reading.now f c.if-reading-eq-REFUSED.true in
    let n = subst (HasNumber (get_or a.reading.now 1 0)) c.unwrap.ensures c.try_from.ensures in
    rw n (finishes h a.reading.now _ a.records.now a.planes.now (bytes a.file.now c.shared_slice_known-1.given) is (declined-done _ a.records.now a.planes.now refl))

pub record_of-m-requires : goal.record_of-m-requires
record_of-m-requires c = let a = c.args in taken a.reading.now (said false (no_reading a.reading.now) (sym c.no_reading.ensures ∙ c.if-no_reading.false))

pub returns : goal.returns
returns c = let a = c.args in
    let h = handed a.file.now a.s a.comps.now a.count a.samples.now a.records.now a.planes.now in
    let f = said false (no_reading a.reading.now) (sym c.no_reading.ensures ∙ c.if-no_reading.false) in
    let e = c.opj_jp2_apply_color_postprocessing.ensures in
    let is = on h a.reading.now f c.if-reading-eq-REFUSED.false ∙ ap (finish h) (sym c.record_of-m.ensures) in
    finishes h a.reading.now _ a.records.now a.planes.now (bytes a.file.now c.shared_slice_known-1.given) is e
