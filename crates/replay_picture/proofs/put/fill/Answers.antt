use Rattle.std.proofs.Common.{ℕ, ◌∷◌, [], ◌++◌, take, sym, ap, ◌∙◌, arith}
use Rattle.std.proofs.lemmas.List.{take_more_set}
use Rattle.std.proofs.lemmas.List.FromFn.{map-range_with_len_more}
use Rattle.replay_picture.specs.Private.Listed.{content_at}
use Rattle.replay_picture.proofs.put.fill.Goals as goal

pub loop-i-preserved : goal.loop-i-preserved
loop-i-preserved g c =
    let l = c.loop-i in
    let f = λ (i : ℕ). g.T.Element.of_bits (content_at c.numbers-numbers.result.now i) in
    let v = c.from_bits.ensures ∙ ap g.T.Element.of_bits c.expected.ensures in
    take_more_set l.d l.i _ (omega arith) ∙ ap (λ x. take l.i l.d ++ x ∷ []) v ∙ ap (λ x. x ++ f l.i ∷ []) l.invariant ∙ sym (map-range_with_len_more f 0 l.i l.i (omega arith))
