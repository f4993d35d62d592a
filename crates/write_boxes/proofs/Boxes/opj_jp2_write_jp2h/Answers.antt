use native.Mathlib.Omega.{arith}
use mathlib.Core.List.{◌++◌}
use lib.ListN.{length, length-append}
use Rattle.box_kind.specs.declared.Jp2BoxType.TheVariants.{JP2H}
use Rattle.write_rules.proofs.Lengths.{length-ihdr}
use Rattle.write_rules.specs.Ihdr.{ihdr}
use Rattle.write_rules.specs.Bpcc.{bpcc}
use Rattle.write_rules.specs.Colr.{colr}
use Rattle.write_rules.specs.Jp2h.{jp2h_content}
use Rattle.write_boxes.specs.Private.Lengths.{jp2h_length}
use Rattle.write_boxes.proofs.Pieces.{then, box-put}
use Rattle.write_boxes.proofs.Lengths.{bpcc-length, colr-length, cdef-length, jp2h-length}
use Rattle.write_boxes.proofs.Boxes.opj_jp2_write_jp2h.Goals as goal

pub returns : goal.returns
returns c = let a = c.args.self.now in
    let s = a.fields in
    let comps = a.comps.now in
    let profile = a.profile.now in
    let n = jp2h_length s (length profile) in
    let h = c.put_header.ensures in
    let l1 = length-ihdr s in
    let l2 = bpcc-length s comps in
    let l3 = colr-length s profile in
    let p2 = then c.opj_jp2_write_ihdr.ensures l1 c.opj_jp2_write_bpcc.ensures l2 (omega (arith, c.requires, h.place, h.long)) in
    let p3 = then p2 (omega (arith, length-append (ihdr s) (bpcc comps s), l1, l2)) c.opj_jp2_write_colr.ensures l3 (omega (arith, c.requires, h.place, h.long)) in
    let p4 = then p3 (omega (arith, length-append (ihdr s) (bpcc comps s), length-append (ihdr s ++ bpcc comps s) (colr s profile), l1, l2, l3)) c.opj_jp2_write_cdef.ensures (cdef-length s comps) (omega (arith, c.requires, h.place, h.long)) in
    box-put JP2H c.jp2h_length.result h (jp2h_content comps s profile) n p4 (jp2h-length s comps profile) c.jp2h_length.ensures.0 c.requires
