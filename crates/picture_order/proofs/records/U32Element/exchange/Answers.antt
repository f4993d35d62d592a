use Rattle.std.proofs.Common.{◌+◌, ◌*◌, ◌<◌, length, arith}
use Rattle.std.proofs.lemmas.List.Edits.{swap_is}
use Rattle.picture_order.proofs.Swapping.{exchanged_self, partly_more}
use Rattle.picture_order.proofs.records.U32Element.exchange.Goals as goal

pub returns-then-p-q-clause-exchanged : goal.returns-then-p-q-clause-exchanged
returns-then-p-q-clause-exchanged c = exchanged_self c.args.p c.args.q c.args.list.now c.if-p-q.true

pub loop-k-preserved : goal.loop-k-preserved
loop-k-preserved c =
    let l = c.loop-k in
    let p : 13 * c.args.p + l.k < length l.list = omega (arith, l.invariant.size) in
    let q : 13 * c.args.q + l.k < length l.list = omega (arith, l.invariant.size) in
    rw (swap_is l.list (13 * c.args.p + l.k) (13 * c.args.q + l.k) 0 p q) (partly_more _ _ _ _ _ (omega arith) (omega arith) (omega arith) l.invariant)
