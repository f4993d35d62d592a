use Rattle.std.proofs.Common.{ℕ, ◌∙◌, arith, rules, tests}
use Rattle.std.proofs.lemmas.Iterator.{YieldsList-from_range, YieldsList-from_map}
use Rattle.std.proofs.lemmas.Iterator.Consumers.{sum_from_yields_List, fits_from_yields_list}
use Rattle.picture_rules.specs.Image.{size}
use Rattle.picture_rules.specs.Channels.{component_of}
use Rattle.picture_finish.proofs.Rooms.{channels-most, sizes-most}
use Rattle.picture_finish.proofs.Sums.{sum-sizes, sum-most}
use Rattle.picture_finish.proofs.Passed.needed_samples.Goals as goal

pub sum-requires-clause-fits : goal.sum-requires-clause-fits
sum-requires-clause-fits c = let a = c.args in
    let o = a.self.now in
    fits_from_yields_list c.map.result _
    (YieldsList-from_map _ (λ (k : ℕ). size o.lent.now (component_of o.f.now o.m k)) (YieldsList-from_range 0 o.checked.channels o.checked.channels c.map.ensures.source (omega arith)) c.map.ensures.closure (λ x r q k. search (rules, tests)))
    (omega (arith, sum-sizes o.f.now o.m o.lent.now o.checked.channels, sum-most o.f.now o.m o.lent.now o.checked.channels (λ k l. sizes-most o.f.now o.m o.lent.now o.tested k (omega (arith, o.all))), o.all, channels-most o.f.now o.m o.lent.now o.tested))

pub returns : goal.returns
returns c = let a = c.args in
    let o = a.self.now in
    sum_from_yields_List c.map.result _ c.sum.ensures.ran
    (YieldsList-from_map _ (λ (k : ℕ). size o.lent.now (component_of o.f.now o.m k)) (YieldsList-from_range 0 o.checked.channels o.checked.channels c.map.ensures.source (omega arith)) c.map.ensures.closure (λ x r q k. search (rules, tests)))
    ∙ sum-sizes o.f.now o.m o.lent.now o.checked.channels
