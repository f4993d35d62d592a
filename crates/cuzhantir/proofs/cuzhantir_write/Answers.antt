use Rattle.export_rules.specs.Places.{answer_length}
use Rattle.export_rules.specs.Answers.{of_told}
use Rattle.export_rules.proofs.Room.{short, long, answer-given}
use Rattle.cuzhantir.proofs.cuzhantir_write.Goals as goal

pub returns-then-answer-lt-ANSWER_LENGTH : goal.returns-then-answer-lt-ANSWER_LENGTH
returns-then-answer-lt-ANSWER_LENGTH c = let d = c.args.answer.now in
    let h = c.if-answer-lt-ANSWER_LENGTH.true in
    record { value = short answer_length d _ _ h; answer_after = short answer_length d _ _ h; d_after = short answer_length d _ _ h }

pub give-requires : goal.give-requires
give-requires c = c.if-answer-lt-ANSWER_LENGTH.false

pub returns : goal.returns
returns c = let d = c.args.answer.now in
    let h = c.if-answer-lt-ANSWER_LENGTH.false in
    let e = c.write_boxes-r.ensures in
    let g = c.give.ensures in
    let a = answer-given of_told d h e.value (g.value, g.answer_after) in
    record { value = a.0; answer_after = a.1; d_after = long answer_length d _ _ h e.d_after }
