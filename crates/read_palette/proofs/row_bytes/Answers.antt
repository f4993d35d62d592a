use Rattle.std.proofs.Common.{ℕ, ◌+◌, ◌∙◌, arith, rules, tests}
use Rattle.std.proofs.lemmas.Iterator.{YieldsList-from_range, YieldsList-from_map}
use Rattle.std.proofs.lemmas.Iterator.Consumers.{sum_from_yields_List, fits_from_yields_list}
use Rattle.box_number.specs.Number.{number}
use Rattle.read_palette.specs.Pclr.{entry_bytes}
use Rattle.read_palette.proofs.Entries.{row-sum, row-most}
use Rattle.read_palette.proofs.row_bytes.Goals as goal

pub sum-requires-clause-fits : goal.sum-requires-clause-fits
sum-requires-clause-fits c = let a = c.args in
    fits_from_yields_list c.map.result _
    (YieldsList-from_map _ (λ (k : ℕ). entry_bytes (number a.s.now (a.at + k) 1)) (YieldsList-from_range 0 a.n a.n c.map.ensures.source (omega arith)) c.map.ensures.closure (λ x r q k. search (rules, tests)))
    (omega (arith, row-sum a.s.now a.at a.n, row-most a.s.now a.at a.n))

pub returns : goal.returns
returns c = let a = c.args in
    sum_from_yields_List c.map.result _ c.sum.ensures.ran
    (YieldsList-from_map _ (λ (k : ℕ). entry_bytes (number a.s.now (a.at + k) 1)) (YieldsList-from_range 0 a.n a.n c.map.ensures.source (omega arith)) c.map.ensures.closure (λ x r q k. search (rules, tests)))
    ∙ row-sum a.s.now a.at a.n
