use native.Mathlib.Omega.{arith}
use Rattle.box_header.proofs.Headers.{child-found, child-missing}
use Rattle.read_jp2h.proofs.Faults.{next-none, next-fault, next-found, fault_10, fault_11, fault_0}
use Rattle.read_jp2h.proofs.find_child.Goals.{then-header-via-then-header, then-header-via-else-header+then-c-next}
use Rattle.read_jp2h.proofs.find_child.Goals as goal

pub returns-then-c-eq0 : goal.returns-then-c-eq0
returns-then-c-eq0 c = let a = c.args in next-none a.place a.c.now c.if-c-eq0.true

pub returns-in_default : goal.returns-in_default
returns-in_default c = let a = c.args in let s = a.c.now in next-fault a.place s c.if-c-eq0.false 10 (fault_10 s (child-missing s c.read.result c.read.ensures c.in_default.not-Ok)) (omega arith)

pub returns-then-header : goal.returns-then-header
returns-then-header c =
    let a = c.args in
    let s = a.c.now in
    let f = child-found s c.read.ensures c.in-Ok.is in
    next-fault a.place s c.if-c-eq0.false 11 (fault_11 s f.1 f.0.whole f.0.low (λ l.
    elim c.then-header.branch [
      | then-header-via-then-header w ↦ absurd (omega (arith, w.if-header, f.0.long, f.0.head))
      | then-header-via-else-header+then-c-next w ↦ omega (arith, w.if-c-next, w.next.ensures, f.0.long)
    ])) (omega arith)

pub returns : goal.returns
returns c = let a = c.args in let s = a.c.now in let f = child-found s c.read.ensures c.in-Ok.is in next-found a.place s c.if-c-eq0.false f.0.is (fault_0 s f.1 f.0.whole f.0.low (omega arith) (omega arith))
