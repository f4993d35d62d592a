use Prim.Native.Nat.{◌*◌}
use native.Mathlib.Omega.{arith}
use mathlib.Core.Path.{refl, ap, ◌∙◌}
use Rattle.box_number.specs.Number.{number}
use Rattle.box_number.proofs.Rows.{row}
use Rattle.picture_rules.specs.Channels.{component_of}
use Rattle.picture_rules.proofs.Rests.{rest-number}
use Rattle.picture_finish.proofs.Passed.component_of.Goals as goal

pub returns-then-l-eq0 : goal.returns-then-l-eq0
unfolding component_of
returns-then-l-eq0 c = row 1 _ (omega arith) refl

pub returns : goal.returns
unfolding component_of
returns c = let a = c.args in
    let o = a.self.now in
    row 0 _ (omega arith) (c.from.ensures ∙ c.read_u16.ensures ∙ ap (λ s. number s (4 * a.c) 2) c.part-list.ensures ∙ rest-number o.f.now o.m.lists.cmap.place (4 * a.c) 2)
