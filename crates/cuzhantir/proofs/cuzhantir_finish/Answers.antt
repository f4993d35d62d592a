use native.Mathlib.Omega.{arith}
use Rattle.export_rules.specs.Places.{answer_length}
use Rattle.export_rules.specs.Answers.{of_told}
use Rattle.export_rules.proofs.Room.{short, long, answer-given}
use Rattle.export_rules.proofs.Rule.{told-right}
use Rattle.cuzhantir.proofs.cuzhantir_finish.Goals as goal

pub returns-then-answer-lt-ANSWER_LENGTH : goal.returns-then-answer-lt-ANSWER_LENGTH
returns-then-answer-lt-ANSWER_LENGTH c = let d = c.args.answer.now in
    let h = c.if-answer-lt-ANSWER_LENGTH.true in
    record { value = short answer_length d _ _ h; answer_after = short answer_length d _ _ h; records_after = short answer_length d _ _ h; planes_after = short answer_length d _ _ h; told_right = λ is l. absurd (omega arith) }

pub give-requires : goal.give-requires
give-requires c = c.if-answer-lt-ANSWER_LENGTH.false

pub returns : goal.returns
returns c = let d = c.args.answer.now in
    let h = c.if-answer-lt-ANSWER_LENGTH.false in
    let e = c.finish_reading-r.ensures in
    let g = c.give.ensures in
    let a = answer-given of_told d h e.done.answer (g.value, g.answer_after) in
    record { value = a.0; answer_after = a.1; records_after = long answer_length d _ _ h e.done.numbers; planes_after = long answer_length d _ _ h e.done.samples; told_right = λ is. told-right _ d _ g.answer_after (e.demand3 is) }
