use Rattle.std.proofs.Common.{length, arith}
use Rattle.std.proofs.lemmas.List.{same_lists, get_or_default}
use Rattle.picture_planes.proofs.Columns.{length-column, column-at}
use Rattle.picture_planes.proofs.Column.read.Goals as goal

pub returns : goal.returns
returns c =
    let a = c.args in
    let e = length-column a.s.now a.self (length a.out.now) in
    same_lists _ _ (omega arith) (λ k d h. let f = column-at a.s.now a.self (length a.out.now) k d (omega arith) in grind (arith, get_or_default, f, c.loop-j.invariant k (omega arith)))
