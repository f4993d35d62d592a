use Rattle.std.proofs.Common.{pos, sym, ◌∙◌, arith}
use Rattle.std.proofs.Math.ListN.{length-map}
use Rattle.std.proofs.lemmas.List.{same_lists, get_or_default, get_or-map}
use Rattle.picture_planes.specs.Private.Entry.{entry_for}
use Rattle.picture_planes.proofs.look_up.Goals as goal

pub returns : goal.returns
returns c =
    let a = c.args in
    same_lists _ _ (simp length-map (omega arith))
    (λ k d h. get_or_default _ k d (pos 0) h ∙ c.loop-k.invariant k (omega arith) ∙ sym (get_or-map (entry_for a.entries.now) a.src.now k (pos 0) d (omega arith)))
