use Prim.Native.Nat.{◌+◌, ◌*◌}
use native.Mathlib.Omega.{arith}
use mathlib.Core.Path.{refl}
use Rattle.box_number.proofs.Bytes.{length-bytes}
use Rattle.box_kind.specs.declared.Jp2BoxType.TheVariants.{CDEF}
use Rattle.write_rules.proofs.Lengths.{length-cdef_entries, length-cdef_content}
use Rattle.write_rules.specs.Cdef.{cdef_content}
use Rattle.write_boxes.proofs.Pieces.{none, then, renamed, box-put}
use Rattle.write_boxes.proofs.Lengths.{cdef-none, cdef-some, cdef-empty, cdef_full}
use Rattle.write_boxes.proofs.Boxes.opj_jp2_write_cdef.Goals as goal

pub returns-then-n-ne0 : goal.returns-then-n-ne0
returns-then-n-ne0 c = let a = c.args.self.now in
    let s = a.fields in
    let n = s.definitions in
    let some = cdef-some s (omega arith) in
    let h = c.put_header.ensures in
    let content = then c.put.ensures (length-bytes 2 n) c.put_definitions.ensures (length-cdef_entries a.comps.now s.colours n) (omega (arith, c.requires, h.place, h.long)) in
    renamed (cdef_full s a.comps.now (omega arith)) (omega (arith, some))
    (box-put CDEF (2 + 6 * n) h (cdef_content a.comps.now s) (2 + 6 * n) content (length-cdef_content a.comps.now s) refl (omega (arith, c.requires)))

pub returns-else-n-ne0 : goal.returns-else-n-ne0
returns-else-n-ne0 c = let a = c.args.self.now in renamed (cdef-empty a.fields a.comps.now (omega arith)) (cdef-none a.fields (omega arith)) (none c.args.out.now)
