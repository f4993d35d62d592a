use Rattle.std.proofs.Common.{◌≡◌, ℕ, List, [], ◌∷◌, get_or, drop, ap, ◌∙◌, arith}
use borrow.Author.Tests.{ltb-true}
use Rattle.std.proofs.lemmas.List.{take_rest}
use denote.Ref.{Bor}
use Rattle.text.proofs.Puts.{turn, done}
use Rattle.text.proofs.Shapes.{filled-past, filled-mark, filled-letter}
use Rattle.text.proofs.fill.Goals as goal
use Rattle.text.proofs.fill.Goals.{in-len1-up, in_default, in_default-via-then-left-lt1, in_default-via-in-len1-up+else-b-eq-MARK}

pub loop-b-preserved : goal.loop-b-preserved
loop-b-preserved c =
    let l = c.loop-b in
    let s = c.args.shape.now in
    elim c.if-left-lt1.branch [
      | in-len1-up w ↦
          let e : c.if-left-lt1.left.now ≡ drop 1 l.left.now = ap (λ (x : Bor (List ℕ)). x.now) w.left-is ∙ take_rest l.left.now 1 in
          rw (w.d-is, w.k-is, e) (turn _ l.invariant (filled-mark s l.left.now l.b-index (omega arith) w.if-b-eq-MARK.true w.in-len1-up.len_at_least) w.number-k.ensures)
      | in_default w ↦
          rw (w.d-is, w.k-is, w.left-is) (
          turn (get_or s l.b-index 0 ∷ []) l.invariant (filled-letter s l.left.now l.b-index (omega arith) (λ e.
          elim w.in_default.branch [
            | in_default-via-then-left-lt1 w' ↦ omega (arith, ltb-true)
            | in_default-via-in-len1-up+else-b-eq-MARK w' ↦ absurd (w'.if-b-eq-MARK.false e)
          ])) w.text-k.ensures)
    ]

pub returns : goal.returns
returns c = done c.loop-b.invariant (filled-past c.args.shape.now _ _ (omega arith))
