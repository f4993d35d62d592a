use Rattle.std.proofs.Common.{ℕ, length, true, false, rules, tests}
use Rattle.std.proofs.lemmas.Iterator.{first_from_Range}
use Rattle.box_number.proofs.Rows.{Says, said}
use Rattle.replay_picture.specs.Private.Compared.{element_differs}
use Rattle.replay_picture.proofs.First.{first_found}
use Rattle.replay_picture.proofs.compare.first_element.Goals as goal

pub returns : goal.returns
returns g c =
    let t = element_differs g.T.Element.bits c.args.listed.now c.args.found.now in
    first_found t (length c.args.found.now) _ (first_from_Range _ _ _ _ (λ (k : ℕ). Says true (t k)) (λ (k : ℕ). Says false (t k)) c.find.ensures.ran (λ x q k. said true (t x) (search (rules, tests))) (λ x q k. (search rules, said false (t x) (search (rules, tests)))))
