use native.Mathlib.Omega.{arith}
use mathlib.Core.Path.{◌∙◌, sym, ap}
use Rattle.read_record.specs.Answer.{accepted}
use Rattle.read_record.proofs.Told.{turned_down, passed_on}
use Rattle.read_jp2h.proofs.Going.{here, going_end, going_fault, going_less, going_stop, going_on}
use Rattle.read_jp2h.proofs.Ways.{going_start, box-begins, box-stop, box-lacks, box-done}
use Rattle.read_jp2h.proofs.read_boxes.Goals as goal

pub returns-in_err-admit : goal.returns-in_err-admit
returns-in_err-admit c =
    let a = c.args in
    passed_on _ _ _ c.from_residual.ensures.1 (box-begins a.ty a.at.place a.at.start a.c.now a.k.now _ c.is_alone-alone.ensures (c.in_err-admit.ensures))

pub loop-b-init : goal.loop-b-init
loop-b-init c =
    let a = c.args in
    let f = box-begins a.ty a.at.place a.at.start a.c.now a.k.now _ c.is_alone-alone.ensures (c.in_ok-admit.ensures) in
    going_start a.ty a.at.place a.at.start a.c.now _ c.is_alone-alone.result f.0

pub find_next-requires : goal.find_next-requires
find_next-requires c = c.loop-b.invariant.room

pub returns-in_err-b : goal.returns-in_err-b
returns-in_err-b c =
    let a = c.args in
    let i = c.is_alone-alone.ensures in
    let f = box-begins a.ty a.at.place a.at.start a.c.now a.k.now _ i (c.in_ok-admit.ensures) in
    passed_on _ _ _ c.from_residual-in_err-b.ensures.1 (box-stop a.ty a.at.place a.at.start a.c.now a.k.now _ i f c.opened-k.ensures (sym (going_fault _ c.loop-b.invariant (c.in_err-b.ensures))))

pub read_item-requires : goal.read_item-requires
read_item-requires c =
    let g = c.loop-b.invariant in
    let h = here _ g (ap accepted (sym c.in-Some.is) ∙ c.in_ok-b.ensures) in
    (h.head, h.size, omega (arith, h.head, h.size, g.room))

pub returns-in_err-read_item : goal.returns-in_err-read_item
returns-in_err-read_item c =
    let a = c.args in
    let i = c.is_alone-alone.ensures in
    let f = box-begins a.ty a.at.place a.at.start a.c.now a.k.now _ i c.in_ok-admit.ensures in
    let h = here _ c.loop-b.invariant (ap accepted (sym c.in-Some.is) ∙ c.in_ok-b.ensures) in
    passed_on _ _ _ c.from_residual-in_err-read_item.ensures.1 (box-stop a.ty a.at.place a.at.start a.c.now a.k.now _ i f c.opened-k.ensures (sym (going_stop h c.in_err-read_item.ensures)))

pub slice_bounds-rest-count : goal.slice_bounds-rest-count
slice_bounds-rest-count c = omega (arith, (here _ c.loop-b.invariant (ap accepted (sym c.in-Some.is) ∙ c.in_ok-b.ensures)).size, c.next-size.ensures)

pub slice_bounds-rest-start : goal.slice_bounds-rest-start
slice_bounds-rest-start c = omega (arith, (here _ c.loop-b.invariant (ap accepted (sym c.in-Some.is) ∙ c.in_ok-b.ensures)).size, c.next-size.ensures)

pub overflow_cast-place : goal.overflow_cast-place
overflow_cast-place c = omega (arith, (here _ c.loop-b.invariant (ap accepted (sym c.in-Some.is) ∙ c.in_ok-b.ensures)).size, c.next-place.ensures, c.loop-b.invariant.room)

pub loop-b-smaller : goal.loop-b-smaller
loop-b-smaller c = going_less _ c.loop-b.invariant (ap accepted (sym c.in-Some.is) ∙ c.in_ok-b.ensures) c.next-size.ensures

pub loop-b-preserved : goal.loop-b-preserved
loop-b-preserved c =
    let h = here _ c.loop-b.invariant (ap accepted (sym c.in-Some.is) ∙ c.in_ok-b.ensures) in
    going_on h c.in_ok-read_item.ensures c.next-size.ensures c.next-place.ensures c.still_lacks-lacks.ensures

pub returns-then-lacks : goal.returns-then-lacks
returns-then-lacks c =
    let a = c.args in
    let i = c.is_alone-alone.ensures in
    let f = box-begins a.ty a.at.place a.at.start a.c.now a.k.now _ i c.in_ok-admit.ensures in
    let e = going_end _ c.loop-b.invariant (ap accepted (sym c.in_default.is) ∙ c.in_ok-b.ensures) in
    turned_down c.refused.ensures (box-lacks a.ty a.at.place a.at.start a.c.now a.k.now _ i f c.opened-k.ensures e.0 (e.1 ∙ c.if-lacks.true))

pub returns : goal.returns
returns c =
    let a = c.args in
    let i = c.is_alone-alone.ensures in
    let f = box-begins a.ty a.at.place a.at.start a.c.now a.k.now _ i c.in_ok-admit.ensures in
    let e = going_end _ c.loop-b.invariant (ap accepted (sym c.in_default.is) ∙ c.in_ok-b.ensures) in
    box-done a.ty a.at.place a.at.start a.c.now a.k.now _ i f c.opened-k.ensures e.0 (e.1 ∙ c.if-lacks.false) (rw c.closed-k.ensures)
