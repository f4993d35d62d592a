use Rattle.std.proofs.Common.{arith}
use Rattle.picture_order.specs.Private.Steps.{def_of}
use Rattle.picture_order.proofs.Deciding.{no_record, only_marked, no_place, no-colour, colour}
use Rattle.picture_order.proofs.positions.Positions.decide.Goals as goal

pub returns-then-self-d-clause-decided : goal.returns-then-self-d-clause-decided
returns-then-self-d-clause-decided g c =
    let s = c.args.self.now in
    no_record s.n c.args.edition2 (def_of c.args.d) s.positions s.channels s.positioned (omega arith)

pub returns-then-d-eq0-clause-decided : goal.returns-then-d-eq0-clause-decided
returns-then-d-eq0-clause-decided g c =
    let s = c.args.self.now in
    only_marked s.n c.args.edition2 (def_of c.args.d) s.positions s.channels s.positioned (omega arith) (λ no. omega arith)

pub returns-then-self-d-2-clause-decided : goal.returns-then-self-d-2-clause-decided
returns-then-self-d-2-clause-decided g c =
    let s = c.args.self.now in
    no_place s.n c.args.edition2 (def_of c.args.d) s.positions s.channels s.positioned (omega arith) (omega arith) (omega arith) (omega arith)

pub returns-then-d-ne0-clause-decided : goal.returns-then-d-ne0-clause-decided
returns-then-d-ne0-clause-decided g c =
    let s = c.args.self.now in
    no-colour s.n c.args.edition2 (def_of c.args.d) s.positions s.channels s.positioned (omega arith) (omega arith) (omega arith) (omega arith) (omega arith)

pub returns-clause-decided : goal.returns-clause-decided
returns-clause-decided g c =
    let s = c.args.self.now in
    colour s.n c.args.edition2 (def_of c.args.d) s.positions s.channels s.positioned (omega arith) (omega arith) (omega arith) _ (omega arith) (omega arith) c.swap.ensures.positions c.marked_position.ensures c.marked_position-2.ensures
