use native.Mathlib.Omega.{arith}
use Prim.Native.Nat.{ℕ, ◌+◌}
use mathlib.Core.Path.{◌≡◌, refl, ap}
use mathlib.Core.List.{List, ◌++◌}
use native.Mathlib.Numerals.{add-one}
use Rattle.box_number.specs.Number.{bytes}
use Rattle.box_number.proofs.Bytes.{length-bytes}
use Rattle.write_rules.specs.Setup.{BPCi}
use Rattle.write_rules.specs.Box.{series}
use Rattle.write_rules.specs.Bpcc.{bpcc_content}
use Rattle.write_rules.proofs.Bounds.{depth_most}
use Rattle.write_rules.proofs.Lengths.{length-bpcc_content}
use Rattle.write_boxes.proofs.Pieces.{none, then, renamed}
use Rattle.write_boxes.proofs.Boxes.put_depths.Goals as goal

one_more : (comps : List ℕ) (c : ℕ) {v : ℕ} → v ≡ BPCi comps c → bpcc_content comps c ++ bytes 1 v ≡ bpcc_content comps (c + 1)
unfolding series
one_more comps c e = rw (add-one c, e)

pub overflow_cast-component_bits : goal.overflow_cast-component_bits
overflow_cast-component_bits c = omega (arith, depth_most c.args.self.now.comps.now c.loop-c.c (c.args.self.now.well c.loop-c.c c.loop-c-test.true), c.component_bits.ensures)

pub loop-c-init : goal.loop-c-init
unfolding series
loop-c-init c = none c.args.out.now

pub loop-c-preserved : goal.loop-c-preserved
loop-c-preserved c = let comps = c.args.self.now.comps.now in
    let l = c.loop-c in
    renamed (one_more comps l.c c.component_bits.ensures) refl (then l.invariant (length-bpcc_content comps l.c) c.put.ensures (length-bytes 1 c.component_bits.result) (omega (arith, c.requires)))

pub returns : goal.returns
returns c = let e : c.loop-c.c ≡ c.args.self.now.fields.numcomps = omega arith in renamed (ap (bpcc_content c.args.self.now.comps.now) e) e c.loop-c.invariant
