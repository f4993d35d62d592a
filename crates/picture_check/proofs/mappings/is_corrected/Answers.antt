use Rattle.std.proofs.Common.{ℕ, ◌≡◌, true, false, refl, ◌∙◌, arith, rules, tests}
use Rattle.std.proofs.lemmas.Iterator.{YieldsList-from_range, cases_from_any}
use Rattle.box_number.specs.Table.{◌=?◌, ◌≠?◌, ◌and◌, holds}
use Rattle.box_number.specs.Lowest.{some}
use Rattle.box_number.proofs.Answers.{same}
use Rattle.read_channels.specs.Cmap.{MTYP}
use Rattle.picture_rules.specs.Channels.{direct, corrected}
use Rattle.box_number.proofs.Found.{some-is}
use Rattle.picture_check.proofs.mappings.is_corrected.Goals as goal

pub returns-then-n-eq1 : goal.returns-then-n-eq1
returns-then-n-eq1 c = let a = c.args in
    let t = direct a.f.now a.l in
    let u = λ (i : ℕ). MTYP a.f.now a.l i =? 0 in
    let e = some-is u t 1 a.l.count (λ k l p. absurd (omega arith)) (λ k from l. same (u k) (t k) (λ h. (omega arith, h)) (λ h p. h)) c.any.result
    (cases_from_any _ _ _ (λ i. true ≡ holds (u i)) (λ i. false ≡ holds (u i)) c.any.ensures.ran (YieldsList-from_range 1 a.l.count _ refl refl) (λ i q k. search (rules, tests)) (λ i q k. search (rules, tests))) in
    e ∙ same (some t a.l.count) (a.l.count ≠? 0 and corrected a.f.now a.l a.n) (λ h. (omega arith, (omega arith, h))) (λ h some one. h)
