use mathlib.Core.Path.{refl}
use Rattle.box_number.specs.Number.{placed}
use Rattle.cuzhantir.proofs.answers.give.Goals as goal

pub returns-in-Ok-clause-answer_after : goal.returns-in-Ok-clause-answer_after
unfolding placed
returns-in-Ok-clause-answer_after c = rw (c.in-Ok.is, c.copy_from_slice.ensures.after, c.from.ensures) refl

pub returns-in-Err-clause-answer_after : goal.returns-in-Err-clause-answer_after
unfolding placed
returns-in-Err-clause-answer_after c = rw (c.in-Err.is, c.copy_from_slice-in-Err.ensures.after, c.from-in-Err.ensures, c.number-number.ensures) refl
