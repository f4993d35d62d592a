use mathlib.Core.Path.{refl}
use Rattle.box_number.proofs.Rows.{row}
use Rattle.picture_rules.specs.Edition.{marked_position}
use Rattle.picture_order.proofs.positions.marked_position.Goals as goal

pub returns-then-edition2-eq0 : goal.returns-then-edition2-eq0
unfolding marked_position
returns-then-edition2-eq0 c = row 0 _ c.if-edition2-eq0.true refl

pub returns-else-edition2-eq0 : goal.returns-else-edition2-eq0
unfolding marked_position
returns-else-edition2-eq0 c = row 1 _ (c.if-edition2-eq0.false, tt) refl
