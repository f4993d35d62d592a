use Prim.Native.Nat.{◌+◌}
use native.Mathlib.Omega.{arith}
use mathlib.Core.Path.{◌≡◌, ap, ◌∙◌}
use Rattle.picture_rules.specs.Image.{Image, first, no_data}
use Rattle.picture_rules.proofs.Packs.{size_none}
use Rattle.picture_finish.proofs.Packing.{placed-blank, placed-looked, placed_copied}
use Rattle.picture_finish.proofs.Passed.pack_samples.Goals as goal
use Rattle.picture_finish.proofs.Passed.pack_samples.Goals.{then-looked_up, else-looked_up}

pub returns-then-first : goal.returns-then-first
returns-then-first c = let a = c.args in
    let o = a.self.now in
    let e = size_none o.lent.now a.r (omega arith) in
    (omega arith, placed-blank a.s.now a.k o.lent.now a.r a.looked_up a.planes.now a.at e)

pub returns : goal.returns
returns c = let a = c.args in
    let o = a.self.now in
    let some : first o.lent.now a.r ≡ no_data → ⊥ = omega (arith, c.if-first.false, c.component-first.ensures) in (
      ap (λ n. a.at + n) c.size-n.ensures,
      elim c.if-looked_up.branch [
        | then-looked_up w ↦ w.planes-is ∙ placed-looked a.s.now a.k o.lent.now a.r a.looked_up a.planes.now a.at c.requires some c.component-first.ensures c.size-n.ensures w.if-looked_up.true (rw (ap (λ (i : Image). i.samples) c.lent.view_is) at w.lookup_plane.ensures.dst_after)
        | else-looked_up w ↦ w.planes-is ∙ placed_copied a.s.now a.k o.lent.now a.r a.looked_up a.planes.now a.at c.requires some c.component-first.ensures c.size-n.ensures w.if-looked_up.false (rw (ap (λ (i : Image). i.samples) c.lent.view_is) at w.copy_plane.ensures.dst_after)
      ],
    )
