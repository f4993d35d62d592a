use Rattle.std.proofs.Common.{◌≡◌, map, get_or, sym, ap, ◌∙◌}
use Rattle.std.proofs.lemmas.List.{get_or-map}
use Rattle.replay_picture.proofs.compare.differs_at.Goals as goal

pub returns : goal.returns
returns g c =
    let bits = g.T.Element.bits in
    let s = c.args.found.now in
    let x = c.index-found-k.result in
    let e : c.to_bits.result ≡ get_or (map bits s) c.args.k 0 = c.to_bits.ensures ∙ ap bits c.index-found-k.is ∙ sym (get_or-map bits s c.args.k x 0 c.requires) in
    rw (e, c.expected.ensures)
