use Rattle.std.proofs.Common.{refl, arith}
use Rattle.box_number.proofs.Rows.{row}
use Rattle.test_lines.specs.Lines.{tallied}
use Rattle.test_lines.proofs.count.Goals as goal

pub returns-then-k-tally : goal.returns-then-k-tally
unfolding tallied
returns-then-k-tally c =
    row 0 _ (omega arith) refl

pub returns-else-k-tally : goal.returns-else-k-tally
unfolding tallied
returns-else-k-tally c = row 1 _ (omega arith) refl
