use Rattle.std.proofs.Common.{rules}
use borrow.Author.Tests.{tests}
use Rattle.std.proofs.lemmas.Iterator.{first_from_Range}
use Rattle.write_rules.specs.Setup.{ill}
use Rattle.write_setup.proofs.Ranges.{Yes, No, first_found}
use Rattle.write_setup.proofs.first_ill.Goals as goal

pub returns : goal.returns
returns c = let a = c.args.r.now in
    let t = ill a.comps.now in
    first_found t a.count _ (first_from_Range _ _ _ _ (Yes t) (No t) c.find.ensures.ran (λ x q k. search (rules, tests)) (λ x q k. search (rules, tests)))
