use Prim.Native.Nat.{◌+◌}
use native.Mathlib.Omega.{arith}
use mathlib.Core.Path.{refl, ap, ◌∙◌}
use mathlib.Core.List.{◌++◌}
use lib.ListN.{length-append}
use Rattle.box_kind.specs.declared.Jp2BoxType.TheVariants.{JP2C, JP2H}
use Rattle.write_rules.proofs.Lengths.{length-header, length-box, length-signature, length-type}
use Rattle.write_rules.specs.Signature.{signature}
use Rattle.write_rules.specs.FileType.{file_type}
use Rattle.write_rules.specs.Jp2h.{jp2h_content, jp2h}
use Rattle.write_rules.specs.Writing.{front}
use Rattle.write_boxes.proofs.Pieces.{then, renamed}
use Rattle.write_boxes.proofs.Lengths.{jp2h-length}
use Rattle.write_boxes.proofs.Boxes.write_front.Goals as goal

pub returns : goal.returns
unfolding front
returns c = let a = c.args.self.now in
    let s = a.fields in
    let x = jp2h a.comps.now s a.profile.now in
    let l1 = length-signature in
    let l2 = length-type in
    let l3 = length-box JP2H (jp2h_content a.comps.now s a.profile.now) ∙ ap (λ k. 8 + k) (jp2h-length s a.comps.now a.profile.now) in
    let p2 = then c.opj_jp2_write_jp.ensures l1 c.opj_jp2_write_ftyp.ensures l2 (omega (arith, c.requires)) in
    let p3 = then p2 (omega (arith, length-append signature file_type, l1, l2)) c.opj_jp2_write_jp2h.ensures l3 (omega (arith, c.requires)) in
    let p4 = then p3 (omega (arith, length-append signature file_type, length-append (signature ++ file_type) x, l1, l2, l3)) c.put_header.ensures (length-header JP2C a.codestream) (omega (arith, c.requires)) in
    renamed refl (omega arith) p4
