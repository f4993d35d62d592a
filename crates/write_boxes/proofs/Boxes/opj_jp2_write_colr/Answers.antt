use Prim.Native.Nat.{ℕ, ◌+◌, ◌-◌}
use native.Mathlib.Omega.{arith}
use mathlib.Core.Path.{◌≡◌, refl}
use mathlib.Core.List.{List, [], ◌∷◌}
use lib.ListN.{length}
use Rattle.box_kind.specs.declared.Jp2BoxType.TheVariants.{COLR}
use Rattle.write_rules.proofs.Lengths.{length-colr_content}
use Rattle.write_rules.specs.Colr.{specification, colr_content}
use Rattle.write_rules.specs.Setup.{PREC, APPROX}
use Rattle.write_boxes.proofs.Numbers.{length-joined}
use Rattle.write_boxes.proofs.Pieces.{then, renamed, box-put}
use Rattle.write_boxes.proofs.Lengths.{specification-length, colr-most}
use Rattle.write_boxes.proofs.Boxes.opj_jp2_write_colr.Goals as goal

pub overflow_sub-colr_length : goal.overflow_sub-colr_length
overflow_sub-colr_length c = let s = c.args.self.now in omega (arith, c.colr_length.ensures, specification-length s.fields s.profile.now)

pub put_header-requires : goal.put_header-requires
put_header-requires c = let s = c.args.self.now in (omega (arith, c.colr_length.ensures, colr-most s.fields (length s.profile.now) s.short), omega (arith, c.requires, specification-length s.fields s.profile.now))

pub put-requires-clause-room : goal.put-requires-clause-room
put-requires-clause-room c = let s = c.args.self.now in let h = c.put_header.ensures in omega (arith, c.requires, specification-length s.fields s.profile.now, h.place, h.long)

pub put_specification-requires : goal.put_specification-requires
put_specification-requires c = let s = c.args.self.now in let h = c.put_header.ensures in let p = c.put.ensures in omega (arith, c.requires, specification-length s.fields s.profile.now, h.place, h.long, p.place, p.long)

pub returns : goal.returns
returns c = let s = c.args.self.now in
    let xs = specification s.fields s.profile.now in
    let long = specification-length s.fields s.profile.now in
    let is = c.colr_length.ensures in
    let m : c.colr_length.result - 8 ≡ 3 + length xs = omega arith in
    let numbers : List (ℕ × ℕ) = (1, s.fields.meth) ∷ (1, PREC) ∷ (1, APPROX) ∷ [] in
    let h = c.put_header.ensures in
    let content = then c.put.ensures (length-joined numbers) c.put_specification.ensures refl (omega (arith, c.requires, h.place, h.long)) in
    renamed refl (omega (arith, long))
    (box-put COLR (c.colr_length.result - 8) h (colr_content s.fields s.profile.now) (3 + length xs) content (length-colr_content s.fields s.profile.now) m (omega (arith, c.requires)))
