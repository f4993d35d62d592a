use Rattle.picture_order.proofs.Agreement.{positioned-swap}
use Rattle.picture_order.proofs.positions.Positions.swap.Goals as goal

pub invariant_of-self : goal.invariant_of-self
invariant_of-self g c =
    let a = c.args in
    let s = a.self.now in
    record { positioned = positioned-swap s.n s.positions s.channels s.positioned a.c a.p a.q c.requires.c_bound c.requires.p_is c.requires.q_bound }
