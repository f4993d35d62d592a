use native.Mathlib.Omega.{arith}
use Rattle.picture_finish.proofs.Rooms.{refused-records, refused-samples, planes-fit}
use Rattle.picture_finish.proofs.Passed.room.Goals as goal

pub returns-then-records-numbers : goal.returns-then-records-numbers
returns-then-records-numbers c = let a = c.args in
    let o = a.self.now in
    λ edition2. refused-records o.f.now o.m o.lent.now a.records a.planes edition2 o.all (omega arith)

pub returns-then-needed-gt-MOST_SAMPLES : goal.returns-then-needed-gt-MOST_SAMPLES
returns-then-needed-gt-MOST_SAMPLES c = let a = c.args in
    let o = a.self.now in
    λ edition2. refused-samples o.f.now o.m o.lent.now a.records a.planes edition2 o.all
    c.needed_samples-needed.ensures (omega arith) (grind arith)

pub returns : goal.returns
returns c = let a = c.args in
    let o = a.self.now in
    λ edition2. planes-fit o.f.now o.m o.lent.now a.records a.planes edition2 o.all
    c.needed_samples-needed.ensures (omega arith) (omega arith) (omega arith)
