use Rattle.std.proofs.Common.{refl, arith}
use Rattle.box_number.proofs.Rows.{row}
use Rattle.replay_picture.specs.Private.Listed.{content_at}
use Rattle.replay_picture.proofs.put.expected.Goals as goal

pub returns-then-i-listed : goal.returns-then-i-listed
unfolding content_at
returns-then-i-listed c = row 0 _ (omega arith) c.number.ensures

pub returns-else-i-listed : goal.returns-else-i-listed
unfolding content_at
returns-else-i-listed c = row 1 _ (omega arith) refl
