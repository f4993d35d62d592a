use Rattle.std.proofs.Common.{ℕ, List, ap, ◌∙◌, arith}
use Rattle.box_number.proofs.Rows.{row}
use Rattle.replay_picture.specs.Private.Listed.{number_at, answer_number}
use Rattle.replay_picture.proofs.list.answer_number.Goals as goal

pub returns-in-0 : goal.returns-in-0
unfolding answer_number
returns-in-0 c = row 0 _ (omega arith) (c.from.ensures ∙ c.number.ensures ∙ ap (λ (s : List ℕ). number_at s 2) c.rooms-s.ensures)

pub returns-in-1 : goal.returns-in-1
unfolding answer_number
returns-in-1 c = row 1 _ (omega arith) (c.from-in-1.ensures ∙ c.number-in-1.ensures ∙ ap (λ (s : List ℕ). number_at s 3) c.rooms-s.ensures)

pub returns-in-2 : goal.returns-in-2
unfolding answer_number
returns-in-2 c =
    row 2 _ (omega arith) (rw (c.from-in-2.ensures, c.from-in-2-2.ensures, ← c.rooms-s.ensures, ← c.number-in-2.ensures, ← c.number-in-2-2.ensures))

pub returns-in_default : goal.returns-in_default
unfolding answer_number
returns-in_default c =
    row 3 _ (omega arith) (c.from-in_default.ensures ∙ c.number-in_default.ensures ∙ ap (λ (s : List ℕ). number_at s 6) c.rooms-s.ensures)
