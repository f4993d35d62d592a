-- The boxes of jp2h that were written, each as its reader takes it.
-- Assumes nothing.
use Prim.Native.Nat.{ℕ, ◌+◌, ◌-◌, ◌<◌}
use mathlib.Core.Path.{◌≡◌, refl, sym, ap, ◌∙◌}
use mathlib.Core.List.{List, ◌++◌}
use native.Mathlib.Omega.{arith}
use lib.ListN.{length}
use Rattle.box_number.specs.Number.{number, bytes}
use Rattle.box_number.proofs.Rows.{row}
use Rattle.box_number.proofs.Bytes.{length-bytes}
use Rattle.box_kind.proofs.KindNumbers.{kinds_and_numbers}
use Rattle.box_kind.specs.declared.Jp2BoxType.TheVariants.{IHDR, BPCC, COLR, CDEF}
use Rattle.read_record.specs.declared.Image.{Image}
use Rattle.read_record.specs.declared.Colour.{Colour}
use Rattle.read_record.specs.declared.Jp2.{Jp2}
use Rattle.read_record.specs.Record.{span, with_image, with_colour, with_bpcc, with_icc, with_cdef, with_has_ihdr}
use Rattle.read_record.specs.Answer.{accepted}
use Rattle.read_image.specs.Ihdr as image
use Rattle.read_image.specs.Bpcc as depths
use Rattle.read_colour.specs.Colr as colour
use Rattle.read_channels.specs.Cdef as channels
use Rattle.read_jp2h.specs.Child.{child}
use Rattle.write_rules.specs.Request.{Request}
use Rattle.write_rules.specs.Bpcc.{bpcc_content}
use Rattle.write_rules.specs.Ihdr.{ihdr_content}
use Rattle.write_rules.specs.Box.{series}
use Rattle.write_rules.specs.Setup.{C, UnkC, IPR, PREC, APPROX, written_definition, fields_of}
use Rattle.write_rules.specs.Colr.{specification, colr_content}
use Rattle.write_rules.specs.Cdef.{cdef_entry, cdef_content}
use Rattle.write_rules.proofs.Numbers.{number-here, number-last, number-after}
use Rattle.write_rules.proofs.Splitting.{box_at}
use Rattle.write_rules.proofs.Bounds.{Fit, wrapping-most, bpc-most, n-most, space-most}
use Rattle.write_rules.proofs.Lengths.{length-ihdr_content, length-bpcc_content, length-colr_content, length-cdef_content}

-- the image and the colour that are put
abbrev pub sized : Request → Image
sized r = record { h = (fields_of r).h; w = (fields_of r).w; numcomps = r.count; bpc = (fields_of r).bpc; c = C; unkc = UnkC; ipr = IPR }

abbrev pub painted : Request → Jp2 → Colour
painted r k = record { meth = (fields_of r).meth; precedence = PREC; approx = APPROX; enumcs = (fields_of r).enumcs; lab = k.colour.lab; held = 1 }

module _ (r : Request) (fit : Fit r) where
  image-is : image.image_fields (ihdr_content (fields_of r)) ≡ sized r
  unfolding number bytes
  image-is =
      let b = bpc-most r fit in
      let x = wrapping-most r.y1 r.y0 in
      let y = wrapping-most r.x1 r.x0 in
      let m = fit.most in
      let h : image.HEIGHT (ihdr_content (fields_of r)) ≡ (fields_of r).h = omega arith in
      let w : image.WIDTH (ihdr_content (fields_of r)) ≡ (fields_of r).w = omega arith in
      let n : image.NC (ihdr_content (fields_of r)) ≡ r.count = omega arith in
      let p : image.BPC (ihdr_content (fields_of r)) ≡ (fields_of r).bpc = omega arith in
      cc

  pub ihdr-read : (at : ℕ) (k : Jp2) → k.image.numcomps ≡ 0 → child (box_at IHDR at (ihdr_content (fields_of r))) k ≡ accepted (with_has_ihdr (with_image (sized r) k))
  unfolding image.ihdr
  ihdr-read at k z =
      let i = image-is in
      let l = length-ihdr_content (fields_of r) in
      let h : image.HEIGHT (ihdr_content (fields_of r)) ≡ (fields_of r).h = ap (λ (x : Image). x.h) i in
      let w : image.WIDTH (ihdr_content (fields_of r)) ≡ (fields_of r).w = ap (λ (x : Image). x.w) i in
      let n : image.NC (ihdr_content (fields_of r)) ≡ r.count = ap (λ (x : Image). x.numcomps) i in
      let s = fit.some in
      let m = fit.most in
      rw (kinds_and_numbers.kind_back IHDR tt) (sym (row 4 _ (z, (l, (((λ e. fit.high (sym h ∙ e)), ((λ e. fit.wide (sym w ∙ e)), omega arith)), (omega arith, tt)))) (ap (λ (x : Image). accepted (with_has_ihdr (with_image x k))) (sym i))))

  pub bpcc-read : (at : ℕ) (k : Jp2) → k.image.numcomps ≡ r.count → child (box_at BPCC at (bpcc_content r.components r.count)) k ≡ accepted (with_bpcc (span (at + 8) r.count) k)
  unfolding depths.bpcc
  bpcc-read at k z =
      let l = length-bpcc_content r.components r.count in
      rw (kinds_and_numbers.kind_back BPCC tt) (sym (row 1 _ (l ∙ sym z, tt) (ap (λ (n : ℕ). accepted (with_bpcc (span (at + 8) n) k)) (sym l))))

  -- METH, PREC and APPROX
  fields_are : (fields_of r).meth < 256 → (colour.METH (colr_content (fields_of r) r.profile) ≡ (fields_of r).meth) × (colour.PREC (colr_content (fields_of r) r.profile) ≡ PREC) × (colour.APPROX (colr_content (fields_of r) r.profile) ≡ APPROX)
  unfolding number bytes
  fields_are b = (omega arith, refl, refl)

  pub spec_one : (fields_of r).meth ≡ 1 → specification (fields_of r) r.profile ≡ bytes 4 (fields_of r).enumcs
  unfolding specification
  spec_one e = sym (row 0 _ e refl)

  pub spec_two : (fields_of r).meth ≡ 2 → specification (fields_of r) r.profile ≡ r.profile
  unfolding specification
  spec_two e = sym (row 1 _ (omega arith) refl)

  enum_is : (fields_of r).meth ≡ 1 → colour.EnumCS (colr_content (fields_of r) r.profile) ≡ (fields_of r).enumcs
  unfolding bytes
  enum_is e =
      let s = space-most r in
      let x : colour.EnumCS (colr_content (fields_of r) r.profile) ≡ number (specification (fields_of r) r.profile) 0 4 = number-after (bytes 1 (fields_of r).meth ++ bytes 1 PREC ++ bytes 1 APPROX) (specification (fields_of r) r.profile) 0 4 in
      let y : number (bytes 4 (fields_of r).enumcs) 0 4 ≡ (fields_of r).enumcs = number-last 4 (fields_of r).enumcs (omega arith) (omega arith) in
      x ∙ ap (λ (l : List ℕ). number l 0 4) (spec_one e) ∙ y

  pub colr-one : (at : ℕ) (k : Jp2) → (fields_of r).meth ≡ 1 → k.colour.held ≡ 0 → child (box_at COLR at (colr_content (fields_of r) r.profile)) k ≡ accepted (with_colour (painted r k) k)
  unfolding colour.colr
  colr-one at k e z =
      let f = fields_are (omega arith) in
      let s = space-most r in
      let n = enum_is e in
      let l : length (colr_content (fields_of r) r.profile) ≡ 7 = rw (length-colr_content (fields_of r) r.profile, spec_one e, length-bytes) in
      let same : colour.specified (colr_content (fields_of r) r.profile) (colour.EnumCS (colr_content (fields_of r) r.profile)) k.colour.lab 1 ≡ painted r k = rw (f.0, f.1, f.2, n) refl in
      rw (kinds_and_numbers.kind_back COLR tt) (sym (row 4 _ (omega arith, (z, ((λ _. omega arith), ((λ _ x. s.1 (sym n ∙ x)), f.0 ∙ e)))) (ap (λ (x : Colour). accepted (with_colour x k)) (sym same))))

  pub colr-two : (at : ℕ) (k : Jp2) → (fields_of r).meth ≡ 2 → (fields_of r).enumcs ≡ 0 → k.colour.held ≡ 0 → k.colour.enumcs ≡ 0 → k.colour.lab ≡ colour.no_lab
      → child (box_at COLR at (colr_content (fields_of r) r.profile)) k ≡ accepted (with_icc (span (at + 8 + 3) (length r.profile)) (with_colour (painted r k) k))
  unfolding colour.colr
  colr-two at k e n z q b =
      let f = fields_are (omega arith) in
      let l : length (colr_content (fields_of r) r.profile) ≡ 3 + length r.profile = rw (length-colr_content (fields_of r) r.profile, spec_two e) refl in
      let d : length (colr_content (fields_of r) r.profile) - 3 ≡ length r.profile = omega arith in
      let same : colour.specified (colr_content (fields_of r) r.profile) k.colour.enumcs colour.no_lab 1 ≡ painted r k = rw (f.0, f.1, f.2, q, n, b) refl in
      let other : colour.METH (colr_content (fields_of r) r.profile) ≡ 1 → ⊥ = λ x. omega (arith, f.0) in
      rw (kinds_and_numbers.kind_back COLR tt) (sym (row 5 _ (omega arith, (z, ((λ x. absurd (other x)), ((λ x. absurd (other x)), (other, f.0 ∙ e))))) (rw (d, same) refl)))

  pub cdef-read : (at : ℕ) (k : Jp2) → ((fields_of r).definitions ≡ 0 → ⊥) → k.lists.cdef.count ≡ 0 → child (box_at CDEF at (cdef_content r.components (fields_of r))) k ≡ accepted (with_cdef (span (at + 8 + 2) (fields_of r).definitions) k)
  unfolding channels.cdef
  cdef-read at k some z =
      let b = n-most r fit in
      let m = fit.most in
      let n : channels.N (cdef_content r.components (fields_of r)) ≡ (fields_of r).definitions = number-here 2 (fields_of r).definitions (series (λ c. cdef_entry (written_definition r.components (fields_of r).colours c)) (fields_of r).definitions) (omega arith) (omega arith) in
      let l = length-cdef_content r.components (fields_of r) in
      rw (kinds_and_numbers.kind_back CDEF tt) (sym (row 4 _ (z, (omega arith, ((λ x. some (sym n ∙ x)), (omega arith, tt)))) (rw n refl)))
