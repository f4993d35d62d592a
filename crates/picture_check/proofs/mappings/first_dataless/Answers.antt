use Rattle.std.proofs.Common.{◌≡◌, true, false, refl, arith, rules, tests}
use Rattle.std.proofs.lemmas.Iterator.{first_from_Range}
use Rattle.box_number.specs.Table.{holds}
use Rattle.picture_rules.specs.Check.{dataless}
use Rattle.box_number.proofs.Found.{found-is}
use Rattle.picture_check.proofs.mappings.first_dataless.Goals as goal

pub returns : goal.returns
returns c = let a = c.args in
    let t = dataless a.f.now a.l a.lent.now in
    found-is t t 0 a.l.count (λ k l. absurd (omega arith)) (λ k from l. refl) c.find.result
    (first_from_Range _ _ _ _ (λ i. true ≡ holds (t i)) (λ i. false ≡ holds (t i)) c.find.ensures.ran (λ i q k. search (rules, tests)) (λ i q k. search (rules, tests)))
