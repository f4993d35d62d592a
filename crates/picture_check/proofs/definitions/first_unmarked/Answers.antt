use Rattle.std.proofs.Common.{ℕ, ◌≡◌, true, false, not, get_or, arith, rules, tests}
use Rattle.std.proofs.lemmas.Iterator.{first_from_Range}
use Rattle.box_number.specs.Table.{flag, holds}
use Rattle.box_number.proofs.Answers.{same}
use Rattle.picture_check.specs.Private.Parts.{unmarked}
use Rattle.box_number.proofs.Found.{found-is}
use Rattle.picture_check.proofs.definitions.first_unmarked.Goals as goal

pub returns : goal.returns
returns c = let a = c.args in
    let t = unmarked a.least a.seen.now in
    let u = λ (i : ℕ). flag (not (get_or a.seen.now i false)) in
    found-is u t a.least a.k (λ k l p. absurd (omega arith)) (λ k from l. same (u k) (t k) (λ h. (omega arith, h)) (λ h p. h)) c.find.result
    (first_from_Range _ _ _ _ (λ i. true ≡ holds (u i)) (λ i. false ≡ holds (u i)) c.find.ensures.ran (λ i q k. search (rules, tests)) (λ i q k. (search (rules, tests), search (rules, tests))))
