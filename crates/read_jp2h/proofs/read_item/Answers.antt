use mathlib.Core.Path.{ap, ◌∙◌}
use mathlib.Core.List.{List}
use Prim.Native.Nat.{ℕ, ◌+◌}
use Rattle.box_number.specs.Number.{part}
use Rattle.box_header.proofs.Headers.{part-content}
use Rattle.read_jp2h.specs.Child.{reader}
use Rattle.read_jp2h.proofs.read_item.Goals as goal

pub returns : goal.returns
unfolding part
returns c = let a = c.args in let h = a.b.header in c.read_content.ensures ∙ ap (λ (x : List ℕ). reader h.ty a.b.place (a.at + h.header_length) x a.k.now) (part-content a.c.now h c.content_length.ensures)
