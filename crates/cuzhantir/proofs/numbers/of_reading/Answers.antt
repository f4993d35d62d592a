use mathlib.Core.Path.{refl, ◌∙◌}
use Rattle.read_rules.specs.File.{after}
use Rattle.cuzhantir.proofs.numbers.of_reading.Goals as goal

pub returns-in-Codestream : goal.returns-in-Codestream
unfolding after
returns-in-Codestream c = c.with_record.ensures ∙ rw (c.in-Ok.is, c.in-Codestream.is, c.from.ensures) refl

pub returns-in-Ended : goal.returns-in-Ended
unfolding after
returns-in-Ended c = c.with_record-in-Ended.ensures ∙ rw (c.in-Ok.is, c.in-Ended.is) refl

pub returns-in-Err : goal.returns-in-Err
unfolding after
returns-in-Err c = c.with_record-in-Err.ensures ∙ rw (c.in-Err.is, c.from-in-Err.ensures, c.number.ensures, c.from-in-Err-2.ensures, c.opj_jp2_create.ensures) refl
