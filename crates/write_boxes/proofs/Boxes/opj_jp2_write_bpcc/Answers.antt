use native.Mathlib.Omega.{arith}
use mathlib.Core.Path.{refl}
use Rattle.box_kind.specs.declared.Jp2BoxType.TheVariants.{BPCC}
use Rattle.write_rules.proofs.Lengths.{length-bpcc_content}
use Rattle.write_rules.specs.Bpcc.{bpcc_content}
use Rattle.write_boxes.proofs.Pieces.{none, renamed, box-put}
use Rattle.write_boxes.proofs.Lengths.{bpcc-none, bpcc-some, bpcc-empty, bpcc_full}
use Rattle.write_boxes.proofs.Boxes.opj_jp2_write_bpcc.Goals as goal

pub returns-then-s-eq-VARIES : goal.returns-then-s-eq-VARIES
returns-then-s-eq-VARIES c = let a = c.args.self.now in
    let n = a.fields.numcomps in
    let some = bpcc-some a.fields (omega arith) in
    renamed (bpcc_full a.fields a.comps.now (omega arith)) some
    (box-put BPCC n c.put_header.ensures (bpcc_content a.comps.now n) n c.put_depths.ensures (length-bpcc_content a.comps.now n) refl (omega (arith, c.requires)))

pub returns-else-s-eq-VARIES : goal.returns-else-s-eq-VARIES
returns-else-s-eq-VARIES c = let a = c.args.self.now in renamed (bpcc-empty a.fields a.comps.now (omega arith)) (bpcc-none a.fields (omega arith)) (none c.args.out.now)
