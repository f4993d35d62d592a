use Rattle.std.proofs.Common.{ap₂, [], ◌∷◌}
use Rattle.text.proofs.Puts.{puts-same, puts_then}
use Rattle.jp2info.proofs.quote.by_number.Goals as goal

pub returns : goal.returns
returns c =
    puts_then _ _ _ _ c.escape-k.ensures (puts-same _ _ (ap₂ (λ a b. a ∷ b ∷ []) c.digit.ensures c.digit-2.ensures) c.text.ensures)
