-- Demand 3 for callers from C and Rust: where the answer says that planes were finished, the two destinations have the right ones, whatever the order of the definitions.
use Rattle.std.specs.Prelude.{ℕ, ◌≤◌, List, ℤ, length}
use Rattle.picture_rules.specs.Words.{Handed}
use Rattle.picture_rules.specs.Whole.{Demand3}
use Rattle.export_rules.specs.Places.{answer_length}
use Rattle.export_rules.specs.Answers.{answer_in}

-- `before` and `after` are the list for the answer, `records'` is the destination of the records afterwards, `planes` and `planes'` are that of the samples before and afterwards.
-- Where there was room for the answer, demand 3 holds of what it says.
abbrev pub ToldRight : Handed → List ℕ → List ℕ → List ℕ → List ℤ → List ℤ → Type 0
ToldRight h before after records' planes planes' = answer_length ≤ length before → Demand3 h (answer_in after) records' planes planes'
