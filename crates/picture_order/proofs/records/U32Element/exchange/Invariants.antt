use Rattle.picture_order.proofs.Swapping.{Partly}
use Rattle.picture_order.proofs.records.U32Element.exchange.Given as goal

-- before number k: the numbers before it are exchanged
abbrev pub invariant-loop-k : goal.invariant-loop-k
invariant-loop-k l = Partly l.p l.q l.initial.list l.k l.list
