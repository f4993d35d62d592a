use Rattle.std.proofs.Common.{◌≡◌, take, map}
use Rattle.std.specs.List.{range_with_len}
use Rattle.replay_picture.specs.Private.Listed.{content_at}
use Rattle.replay_picture.proofs.put.fill.Given as goal

abbrev pub invariant-loop-i : goal.invariant-loop-i
invariant-loop-i g l = take l.i l.d ≡ map (λ i. g.T.Element.of_bits (content_at l.numbers i)) (range_with_len 0 l.i)
