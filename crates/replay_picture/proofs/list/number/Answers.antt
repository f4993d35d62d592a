use Rattle.std.proofs.Common.{refl, arith}
use Rattle.box_number.proofs.Rows.{row}
use Rattle.replay_picture.specs.Private.Listed.{number_at}
use Rattle.replay_picture.proofs.list.number.Goals as goal

pub returns-then-i-s : goal.returns-then-i-s
unfolding number_at
returns-then-i-s c = row 0 _ (omega arith) c.read_u32.ensures

pub returns-else-i-s : goal.returns-else-i-s
unfolding number_at
returns-else-i-s c = row 1 _ (omega arith) refl
