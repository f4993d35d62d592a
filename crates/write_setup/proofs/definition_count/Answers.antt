use Rattle.std.proofs.Common.{sym, ◌∙◌, arith}
use Rattle.box_number.proofs.Indices.{lowest-none}
use Rattle.write_setup.proofs.Marks.{marked, marks-none}
use Rattle.write_setup.proofs.Ranges.{first-none}
use Rattle.write_setup.proofs.definition_count.Goals as goal

-- where one is marked, there is a first
pub returns-in_default-3 : goal.returns-in_default-3
returns-in_default-3 c = let a = c.args.r.now in
    let t = marked a.comps.now in
    let none = marks-none a.comps.now a.count (lowest-none t a.count (first-none t a.count (sym c.in_default.is ∙ c.first_marked.ensures))) in
    absurd (omega arith)
