use Rattle.std.proofs.Common.{refl}
use Rattle.test_lines.proofs.Lines.{line-printed}
use Rattle.test_lines.proofs.say.Goals as goal

pub returns : goal.returns
returns g c = line-printed _ _ refl c.fill-n.ensures.0
