use Rattle.std.proofs.Common.{pos, get_or, ap, ◌∙◌, rules}
use Rattle.std.proofs.lemmas.Int.{to_z-of_z}
use mir.Syntax.{w32}
use mir.Val.{SFits}
use Rattle.picture_planes.proofs.Picks.{index_picked}
use Rattle.picture_planes.proofs.pick.Goals as goal

pub returns : goal.returns
returns c =
    let a = c.args in
    let f : SFits w32 c.max.result = search rules in
    to_z-of_z w32 _ (search rules)
    ∙ ap (λ i. get_or a.entries.now i (pos 0)) (c.min.ensures ∙ rw (to_z-of_z w32 _ f, c.max.ensures.value, to_z-of_z w32 _ c.ranges.s) (index_picked a.s _))
