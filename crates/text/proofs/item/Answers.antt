use Rattle.text.proofs.Puts.{puts_then}
use Rattle.text.proofs.item.Goals as goal

pub returns : goal.returns
returns c = puts_then _ _ _ _ c.text-k.ensures c.number.ensures
