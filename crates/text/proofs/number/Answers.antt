use Rattle.std.proofs.Common.{sym, ◌∙◌}
use Rattle.text.proofs.Puts.{puts-same}
use Rattle.text.proofs.Decimals.{decimal-std}
use Rattle.text.proofs.number.Goals as goal

pub returns : goal.returns
returns c =
    puts-same _ _ (c.as_bytes.ensures.value ∙ c.format.ensures.text ∙ sym (decimal-std c.args.n c.ranges.n.fits)) c.text.ensures
