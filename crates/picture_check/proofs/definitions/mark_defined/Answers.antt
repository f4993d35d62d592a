use Rattle.std.proofs.Common.{◌∙◌, arith}
use lib.ListN.{length-set}
use Rattle.picture_check.proofs.Marks.{marks-next}
use Rattle.picture_check.proofs.definitions.mark_defined.Goals as goal

pub loop-j-preserved : goal.loop-j-preserved
loop-j-preserved c = let a = c.args in
    let l = c.loop-j in
    λ x b. marks-next a.f.now a.l l.seen l.j (c.from.ensures ∙ c.read_u16-channel.ensures) (omega arith) l.invariant x (simp length-set at b)
