use Rattle.std.proofs.Common.{◌∙◌, rules, arith}
use Rattle.std.specs.List.{range_with_len}
use Rattle.std.proofs.lemmas.Iterator.{YieldsList-from_range}
use Rattle.std.proofs.lemmas.Iterator.Consumers.{YieldsList-from_filter, count_from_yields_List}
use Rattle.std.proofs.lemmas.List.Sums.{length-filter}
use borrow.Author.Tests.{tests}
use Rattle.box_number.specs.Table.{holds}
use Rattle.write_setup.proofs.Marks.{marked, marks-counted}
use Rattle.write_setup.proofs.mark_count.Goals as goal

pub returns : goal.returns
returns c = let a = c.args.r.now in
    count_from_yields_List c.filter.result _ c.count.ensures.ran (YieldsList-from_filter _ (λ i. holds (marked a.comps.now i)) (YieldsList-from_range 0 a.count a.count c.filter.ensures.source (omega arith)) c.filter.ensures.closure (λ x b q k. search (rules, tests)))
    ∙ length-filter _ (range_with_len 0 a.count) ∙ marks-counted a.comps.now a.count
