use native.Mathlib.Omega.{arith}
use mathlib.Core.Path.{sym, ◌∙◌}
use mir.Syntax.{w32}
use mir.Facts.{to_z-of_z}
use borrow.Author.Rules.{rules}
use lib.IntN.{pos}
use lib.ListN.{drop, length-drop}
use lib.Seq.{get_or-drop}
use Rattle.box_number.proofs.Placing.{placing_more, placing_all}
use Rattle.picture_planes.proofs.copy_inside.Goals as goal

pub loop-k-preserved : goal.loop-k-preserved
loop-k-preserved c = let a = c.args in
    let l = c.loop-k in
    placing_more a.dst.now a.at (drop a.from a.src.now) l.dst l.k (pos 0) _ l.invariant (omega arith) (simp length-drop (omega arith)) (to_z-of_z {w = w32} (search rules) ∙ sym (get_or-drop a.from a.src.now l.k (pos 0)))

pub returns : goal.returns
returns c = let a = c.args in
    let l = c.loop-k in
    placing_all a.dst.now a.at (drop a.from a.src.now) l.dst l.k a.n l.invariant (omega arith) (simp length-drop (omega arith))
