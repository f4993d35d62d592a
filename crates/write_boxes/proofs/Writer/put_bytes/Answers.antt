use mathlib.Core.Path.{refl}
use Rattle.write_boxes.proofs.Pieces.{placed-puts}
use Rattle.write_boxes.proofs.Writer.put_bytes.Goals as goal

pub returns : goal.returns
returns c = placed-puts refl refl c.copy.ensures refl c.requires
