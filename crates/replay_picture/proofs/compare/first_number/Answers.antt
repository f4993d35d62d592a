use Rattle.std.proofs.Common.{ℕ, true, false, rules, tests}
use Rattle.std.proofs.lemmas.Iterator.{first_from_Range}
use Rattle.box_number.proofs.Rows.{Says}
use Rattle.replay_picture.specs.Private.Compared.{answer_differs}
use Rattle.replay_picture.proofs.First.{first_found}
use Rattle.replay_picture.proofs.compare.first_number.Goals as goal

pub returns : goal.returns
returns c =
    let t = answer_differs c.args.picture.now c.args.answer.now in
    first_found t 4 _ (first_from_Range _ _ _ _ (λ (k : ℕ). Says true (t k)) (λ (k : ℕ). Says false (t k)) c.find.ensures.ran (λ x q k. search (rules, tests)) (λ x q k. search (rules, tests)))
