use Rattle.std.proofs.Common.{arith}
use Rattle.text.proofs.Puts.{put-past, put_part}
use Rattle.text.proofs.text.Goals as goal

pub returns-then-d-at : goal.returns-then-d-at
returns-then-d-at c = put-past _ _ _ (omega arith)

pub returns : goal.returns
returns c =
    put_part _ _ _ _ _ _ (omega arith) c.min.ensures (omega arith) c.copy_from_slice.ensures.after
