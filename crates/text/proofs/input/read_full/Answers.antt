use Rattle.std.proofs.Common.{◌-◌, rules, length, sym, subst}
use Rattle.std.specs.Io.KnownBytes.{Consumes}
use Rattle.std.proofs.KnownBytes.{Consumes-trans}
use Rattle.text.proofs.input.read_full.Goals as goal
use Rattle.text.proofs.Rooms.{take-put}

pub loop-n-preserved : goal.loop-n-preserved
loop-n-preserved g c =
    let l = c.loop-n in (
      search rules,
      subst (Consumes _ _) (sym (take-put l.n (length l.d - l.n) c.in-Ok-1-to-max.got l.d c.read.new.buf l.invariant.0 c.in-Ok-1-to-max.ensures.bound.0)) (Consumes-trans _ _ _ _ _ l.invariant.1 c.in-Ok-1-to-max.ensures.bytes.0),
    )
