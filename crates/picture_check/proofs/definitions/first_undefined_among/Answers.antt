use Rattle.std.proofs.Common.{ap, ◌∙◌, arith}
use Rattle.box_number.specs.Lowest.{found}
use Rattle.picture_check.specs.Private.Parts.{unmarked}
use Rattle.picture_check.proofs.Marks.{marks-all}
use Rattle.picture_check.proofs.definitions.first_undefined_among.Goals as goal

pub returns : goal.returns
returns g c = let b = c in
    let m = c.mark_defined in
    c.first_unmarked.ensures ∙ ap (λ least. found (unmarked least m.new.seen) b.args.k) c.least_counted.ensures ∙ marks-all b.args.f.now b.args.l b.args.edition2 m.new.seen b.args.k (omega arith) (λ x h. m.ensures x (omega arith))
