use Prim.Native.Nat.{◌+◌, ◌*◌}
use native.Mathlib.Omega.{arith}
use mathlib.Core.Path.{◌≡◌, refl, sym, ap, ◌∙◌}
use mathlib.Core.Bool.{true, false, not}
use Rattle.box_number.specs.Table.{◌=?◌, flag, holds}
use Rattle.box_number.specs.Number.{number}
use Rattle.box_number.proofs.Rows.{row, shown}
use Rattle.picture_rules.specs.Channels.{type_by}
use Rattle.picture_rules.proofs.Rests.{rest-number}
use Rattle.picture_finish.proofs.Passed.is_looked_up.Goals as goal

pub returns-then-self : goal.returns-then-self
returns-then-self c = let a = c.args in
    let o = a.self.now in
    let e : 1 ≡ type_by o.f.now o.m.lists.cmap (flag o.checked.corrected) a.c = row 0 _ c.if-self.true refl in
    c.if-self.true ∙ sym (shown true (type_by o.f.now o.m.lists.cmap (flag o.checked.corrected) a.c =? 1) (sym e))

pub returns-else-l-ne0 : goal.returns-else-l-ne0
returns-else-l-ne0 c = let a = c.args in
    let o = a.self.now in
    let e : 0 ≡ type_by o.f.now o.m.lists.cmap (flag o.checked.corrected) a.c = row 2 _ (c.if-self.false, (omega arith, tt)) refl in
    ap (λ n. not (holds (n =? 0))) c.if-l-ne0.false ∙ sym (shown false (type_by o.f.now o.m.lists.cmap (flag o.checked.corrected) a.c =? 1) (λ one. omega (arith, e, one)))

pub returns-then-l-ne0 : goal.returns-then-l-ne0
returns-then-l-ne0 c = let a = c.args in
    let o = a.self.now in
    let at : o.m.lists.cmap.place + (4 * a.c + 2) ≡ o.m.lists.cmap.place + 4 * a.c + 2 = omega arith in
    let e : c.read_u8.result ≡ type_by o.f.now o.m.lists.cmap (flag o.checked.corrected) a.c =
    row 1 _ (c.if-self.false, omega arith)
    (c.read_u8.ensures ∙ ap (λ s. number s (4 * a.c + 2) 1) c.part-list.ensures ∙ rest-number o.f.now o.m.lists.cmap.place (4 * a.c + 2) 1 ∙ ap (λ n. number o.f.now n 1) at) in
    rw (← e) refl
