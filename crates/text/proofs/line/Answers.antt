use Rattle.std.proofs.Common.{eqb, rules, refl, tests}
use Rattle.std.proofs.lemmas.Iterator.Consumers.{nth_from_yields_List}
use Rattle.std.proofs.lemmas.Iterator.Splits.{YieldsList-from_slice_split}
use Rattle.text.proofs.Lines.{nth-line}
use Rattle.text.proofs.line.Goals as goal

pub returns : goal.returns
returns c =
    nth-line c.args.end c.args.n c.args.lines.now _ _ _ (nth_from_yields_List _ _ c.args.n c.nth.ensures.ran (YieldsList-from_slice_split _ (λ b. eqb b c.args.end) c.args.lines.now c.split.ensures.rest c.split.ensures.done c.split.ensures.closure (λ x b q k. search (rules, tests)))) refl c.unwrap_or.ensures
