use Rattle.std.proofs.Common.{refl}
use Rattle.box_number.proofs.Rows.{row}
use Rattle.box_number.proofs.Indices.{none-lowest}
use Rattle.picture_rules.specs.Check.{undefined}
use Rattle.picture_check.proofs.definitions.first_undefined.Goals as goal

pub returns-then-l-eq0 : goal.returns-then-l-eq0
returns-then-l-eq0 c = let a = c.args in row 1 _ (none-lowest (undefined a.edition2 a.f.now a.l) a.k (λ i h p. absurd (p c.if-l-eq0.true)), tt) refl
