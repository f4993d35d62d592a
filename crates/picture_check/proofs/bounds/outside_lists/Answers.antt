use Rattle.std.proofs.Common.{◌≡◌, length, true, false, refl, ap, ◌∙◌, arith, rules, tests}
use Rattle.std.proofs.lemmas.Iterator.{YieldsList-from_range, cases_from_any}
use Rattle.box_number.specs.Table.{holds}
use Rattle.box_number.specs.Lowest.{some}
use Rattle.box_number.proofs.Answers.{same}
use Rattle.picture_rules.specs.Image.{Image}
use Rattle.picture_rules.specs.Finish.{plane_outside, outside_lists}
use Rattle.box_number.proofs.Found.{some-is}
use Rattle.picture_check.proofs.bounds.outside_lists.Goals as goal

pub returns-else-lent-gt-MOST_SAMPLES : goal.returns-else-lent-gt-MOST_SAMPLES
returns-else-lent-gt-MOST_SAMPLES c =
    let i = c.args.lent.now in
    let t = plane_outside i (length i.samples) in
    let n = ap (λ (x : Image). x.count) c.lent.view_is in
    let l = ap (λ (x : Image). length x.components) c.lent.view_is in
    let s = ap (λ (x : Image). length x.samples) c.lent.view_is in
    let e = some-is t t 0 c.lent.inside.count (λ k l. absurd (omega arith)) (λ k from l. refl) c.any.result
    (cases_from_any _ _ _ (λ k. true ≡ holds (t k)) (λ k. false ≡ holds (t k)) c.any.ensures.ran (YieldsList-from_range 0 c.lent.inside.count _ refl refl) (λ k q h. search (rules, tests)) (λ k q h. search (rules, tests))) in
    rw n at e ∙ same (some t i.count) (outside_lists i) (λ h few short many. h) (λ h. (grind arith, (grind arith, (grind arith, h))))
