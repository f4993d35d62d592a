use Rattle.std.proofs.Common.{refl, rules, arith}
use borrow.Author.Tests.{tests}
use Rattle.std.proofs.lemmas.Iterator.{YieldsList-from_range, cases_from_any}
use Rattle.write_rules.specs.Setup.{other_bits}
use Rattle.write_setup.proofs.Ranges.{Yes, No, any_found}
use Rattle.write_setup.proofs.bits_vary.Goals as goal

pub returns : goal.returns
returns c = let a = c.args.r.now in
    let t = other_bits a.comps.now in
    any_found t a.count _ (cases_from_any _ _ _ (Yes t) (No t) c.any.ensures.ran (YieldsList-from_range 0 a.count a.count refl (omega arith)) (λ x q k. search (rules, tests)) (λ x q k. search (rules, tests)))
