use mathlib.Core.List.{◌++◌}
use Prim.Native.Nat.{ℕ}
use lib.ListN.{length}
use mathlib.Core.Bool.{true, false}
use mathlib.Core.Path.{◌≡◌, refl, sym, ap, ◌∙◌}
use native.Mathlib.Omega.{arith}
use Rattle.box_number.specs.Number.{bytes, placed, fits, lies_outside}
use Rattle.box_number.proofs.Answers.{said}
use Rattle.box_number.proofs.Rows.{row}
use Rattle.box_number.proofs.Placing.{length-placed}
use Rattle.box_number.proofs.Bytes.{written-fits, written_next}
use Rattle.box_header.specs.Box.{fits_header, with_header}
use Rattle.box_header.proofs.Jp2BoxHeader.write.Goals as goal

pub returns-then-lies_outside : goal.returns-then-lies_outside
unfolding fits_header with_header
returns-then-lies_outside c =
    let o = said true (lies_outside (length c.args.d.now) c.args.at 8) (sym c.if-lies_outside.true ∙ c.lies_outside.ensures) in
    (row 0 _ (omega (arith, o)) refl, row 0 _ (omega (arith, o)) refl)

pub returns : goal.returns
unfolding fits_header with_header fits bytes
returns c =
    let a = c.args in
    let d = a.d.now in
    let n = a.self.length in
    let o = said false (lies_outside (length d) a.at 8) (sym c.if-lies_outside.false ∙ c.lies_outside.ensures) in
    let p = c.opj_write_bytes.ensures.1 ∙ written-fits d a.at 4 n (omega arith) (omega (arith, o)) in
    let l : length c.opj_write_bytes.new.d ≡ length d = ap length p ∙ length-placed d a.at (bytes 4 n) (omega (arith, o)) in
    let q = written_next d a.at (bytes 4 n) 4 c.ty_u32.result (omega arith) (omega (arith, o)) p c.opj_write_bytes-2.ensures.1 in (
      c.opj_write_bytes-2.ensures.0 ∙ sym (row 1 _ (omega (arith, o, l)) refl) ∙ row 1 _ (omega (arith, o)) refl,
      row 1 _ (omega (arith, o)) (q ∙ ap (λ (m : ℕ). placed d a.at (bytes 4 n ++ bytes 4 m)) c.ty_u32.ensures),
    )
