-- jp2h as it was written, read box by box.
-- Assumes nothing.
use Prim.Native.Nat.{ℕ, zero, suc, ◌+◌, ◌≤◌}
use mathlib.Core.Path.{◌≡◌, refl, sym, ◌∙◌}
use mathlib.Core.Bool.{false}
use mathlib.Core.List.{List, [], ◌++◌, append_assoc, append-nil}
use native.Mathlib.Omega.{arith}
use lib.ListN.{length, length-append}
use Rattle.box_number.specs.Table.{◌=?◌, ◌≠?◌, otherwise, ◌⇒◌∣◌, table}
use Rattle.box_number.proofs.Rows.{row}
use Rattle.box_kind.proofs.KindNumbers.{kinds_and_numbers}
use Rattle.box_kind.specs.declared.Jp2BoxType.TheVariants.{IHDR, BPCC, COLR, CDEF}
use Rattle.box_number.proofs.Bytes.{length-bytes}
use Rattle.read_record.specs.declared.Span.{Span}
use Rattle.read_record.specs.declared.Jp2.{Jp2}
use Rattle.read_record.specs.Record.{blank, span, with_image, with_colour, with_file_type, with_cl, with_bpcc, with_icc, with_cdef, with_state, with_imgstate, with_has_ihdr}
use Rattle.read_record.specs.Answer.{accepted}
use Rattle.read_jp2h.specs.Split.{split, boxes}
use Rattle.read_jp2h.specs.Jp2h as walk
use Rattle.read_jp2h.specs.Jp2h.{read_all, lacks_ihdr, with_header_bit}
use Rattle.box_number.proofs.Indices.{decide}
use Rattle.write_rules.specs.Request.{Request}
use Rattle.write_rules.specs.Jp2h.{jp2h_content}
use Rattle.write_rules.specs.Setup.{varies, fields_of}
use Rattle.write_rules.specs.FileType.{BR, MinV}
use Rattle.write_rules.specs.Box.{box}
use Rattle.write_rules.specs.Ihdr.{ihdr, ihdr_content}
use Rattle.write_rules.specs.Bpcc.{bpcc, bpcc_content}
use Rattle.write_rules.specs.Colr.{colr, specification, colr_content}
use Rattle.write_rules.specs.Cdef.{cdef, cdef_content}
use Rattle.write_rules.proofs.Splitting.{split-box}
use Rattle.write_rules.proofs.Lengths.{length-box, length-ihdr_content, length-ihdr, length-bpcc_content, length-colr_content, length-cdef_content}
use Rattle.write_rules.proofs.Steps.{Reads, no-child, no_more, child-box}
use Rattle.write_rules.proofs.Bounds.{Fit, n-most, meth-cases}
use Rattle.write_rules.proofs.Children.{sized, painted, spec_one, spec_two, ihdr-read, bpcc-read, colr-one, colr-two, cdef-read}

-- the places of colr and cdef
abbrev pub colr_at : Request → ℕ
colr_at r = 62 + length (bpcc r.components (fields_of r))

abbrev pub cdef_at : Request → ℕ
cdef_at r = colr_at r + length (colr (fields_of r) r.profile)

-- the lists that are found
unfoldable pub bits_at : Request → Span
bits_at r = table ((fields_of r).bpc ≠? varies ⇒ span 0 0 ∣ otherwise (span 70 r.count))

unfoldable pub icc_at : Request → Span
icc_at r = table ((fields_of r).meth =? 1 ⇒ span 0 0 ∣ otherwise (span (colr_at r + 8 + 3) (length r.profile)))

unfoldable pub defs_at : Request → Span
defs_at r = table ((fields_of r).definitions =? 0 ⇒ span 0 0 ∣ otherwise (span (cdef_at r + 8 + 2) (fields_of r).definitions))

-- the record after each box
abbrev pub after_type : Jp2
after_type = with_state 3 (with_cl (span 28 1) (with_file_type (record { brand = BR; minversion = MinV }) (with_state 1 blank)))

abbrev pub after_ihdr : Request → Jp2
after_ihdr r = with_has_ihdr (with_image (sized r) (with_imgstate 0 after_type))

abbrev pub after_bpcc : Request → Jp2
after_bpcc r = with_bpcc (bits_at r) (after_ihdr r)

abbrev pub after_colr : Request → Jp2
after_colr r = with_icc (icc_at r) (with_colour (painted r (after_bpcc r)) (after_bpcc r))

abbrev pub after_cdef : Request → Jp2
after_cdef r = with_cdef (defs_at r) (after_colr r)

pub bpcc-none : (r : Request) → ((fields_of r).bpc ≡ varies → ⊥) → (bpcc r.components (fields_of r) ≡ []) × (bits_at r ≡ span 0 0)
unfolding bpcc bits_at
bpcc-none r h = (sym (row 0 _ h refl), sym (row 0 _ h refl))

pub bpcc-some : (r : Request) → (fields_of r).bpc ≡ varies → (bpcc r.components (fields_of r) ≡ box BPCC (bpcc_content r.components r.count)) × (bits_at r ≡ span 70 r.count)
unfolding bpcc bits_at
bpcc-some r h = (sym (row 1 _ (h, tt) refl), sym (row 1 _ (h, tt) refl))

pub icc_none : (r : Request) → (fields_of r).meth ≡ 1 → icc_at r ≡ span 0 0
unfolding icc_at
icc_none r h = sym (row 0 _ h refl)

pub icc_some : (r : Request) → (fields_of r).meth ≡ 2 → icc_at r ≡ span (colr_at r + 8 + 3) (length r.profile)
unfolding icc_at
icc_some r h = sym (row 1 _ (omega arith) refl)

pub cdef-none : (r : Request) → (fields_of r).definitions ≡ 0 → (cdef r.components (fields_of r) ≡ []) × (defs_at r ≡ span 0 0)
unfolding cdef defs_at
cdef-none r h = (sym (row 0 _ h refl), sym (row 0 _ h refl))

pub cdef-some : (r : Request) → ((fields_of r).definitions ≡ 0 → ⊥) → (cdef r.components (fields_of r) ≡ box CDEF (cdef_content r.components (fields_of r))) × (defs_at r ≡ span (cdef_at r + 8 + 2) (fields_of r).definitions)
unfolding cdef defs_at
cdef-some r h = (sym (row 1 _ (h, tt) refl), sym (row 1 _ (h, tt) refl))

module _ (r : Request) (fit : Fit r) where
  bpcc-most : length (bpcc r.components (fields_of r)) ≤ 16392
  bpcc-most =
      let m = fit.most in
      decide ((fields_of r).bpc ≠? varies)
      (λ h. rw (bpcc-none r h).0 (omega arith))
      (λ h. rw ((bpcc-some r h).0, length-box, length-bpcc_content r.components r.count) (omega arith))

  spec_most : length (specification (fields_of r) r.profile) ≤ 16777219
  spec_most =
      let m = fit.profile in
      meth-cases r (λ e _. rw (spec_one r fit e, length-bytes) (omega arith)) (λ e _. rw (spec_two r fit e) (omega arith))

  colr-most : length (colr (fields_of r) r.profile) ≤ 16777230
  colr-most = let s = spec_most in rw (length-box COLR (colr_content (fields_of r) r.profile), length-colr_content (fields_of r) r.profile) (omega arith)

  cdef-most : length (cdef r.components (fields_of r)) ≤ 98314
  cdef-most =
      let m = fit.most in
      let n = n-most r fit in
      decide ((fields_of r).definitions =? 0)
      (λ h. rw (cdef-none r h).0 (omega arith))
      (λ h. rw ((cdef-some r h).0, length-box, length-cdef_content r.components (fields_of r)) (omega arith))

  module _ (n : ℕ) (rest : List ℕ) where
    ihdr-step : length (ihdr (fields_of r) ++ rest) ≤ n → Reads n 40 (ihdr (fields_of r)) rest (with_imgstate 0 after_type) (after_ihdr r)
    ihdr-step h = child-box IHDR (ihdr_content (fields_of r)) rest (rw (length-ihdr_content (fields_of r)) (omega arith)) (omega arith) n 40 (with_imgstate 0 after_type) (after_ihdr r) h (ihdr-read r fit 40 (with_imgstate 0 after_type) refl)

    bpcc-step : length (bpcc r.components (fields_of r) ++ rest) ≤ n → Reads n 62 (bpcc r.components (fields_of r)) rest (after_ihdr r) (after_bpcc r)
    bpcc-step h =
        let m = fit.most in
        decide ((fields_of r).bpc ≠? varies)
        (λ x. let e = bpcc-none r x in rw (e.0, e.1) (no-child n 62 rest (after_ihdr r) (rw e.0 at h)))
        (λ x.
        let e = bpcc-some r x in
        let l = length-bpcc_content r.components r.count in
        rw (e.0, e.1)
        (child-box BPCC (bpcc_content r.components r.count) rest (omega arith) (omega arith) n 62 (after_ihdr r) (with_bpcc (span 70 r.count) (after_ihdr r)) (rw e.0 at h) (bpcc-read r fit 62 (after_ihdr r) refl)))

    colr-step : length (colr (fields_of r) r.profile ++ rest) ≤ n → Reads n (colr_at r) (colr (fields_of r) r.profile) rest (after_bpcc r) (after_colr r)
    colr-step h =
        let s = spec_most in
        let l = length-colr_content (fields_of r) r.profile in
        let step : (m : Jp2) → _ → Reads n (colr_at r) (colr (fields_of r) r.profile) rest (after_bpcc r) m = λ m e. child-box COLR (colr_content (fields_of r) r.profile) rest (omega arith) (omega arith) n (colr_at r) (after_bpcc r) m h e in
        meth-cases r
        (λ e z. rw (icc_none r e) (step _ (colr-one r fit (colr_at r) (after_bpcc r) e refl)))
        (λ e z. rw (icc_some r e) (step _ (colr-two r fit (colr_at r) (after_bpcc r) e z refl refl refl)))

    cdef-step : length (cdef r.components (fields_of r) ++ rest) ≤ n → Reads n (cdef_at r) (cdef r.components (fields_of r)) rest (after_colr r) (after_cdef r)
    cdef-step h =
        let m = fit.most in
        let b = n-most r fit in
        decide ((fields_of r).definitions =? 0)
        (λ x. let e = cdef-none r x in rw (e.0, e.1) (no-child n (cdef_at r) rest (after_colr r) (rw e.0 at h)))
        (λ x.
        let e = cdef-some r x in
        let l = length-cdef_content r.components (fields_of r) in
        rw (e.0, e.1)
        (child-box CDEF (cdef_content r.components (fields_of r)) rest (omega arith) (omega arith) n (cdef_at r) (after_colr r) (with_cdef (span (cdef_at r + 8 + 2) (fields_of r).definitions) (after_colr r)) (rw e.0 at h) (cdef-read r fit (cdef_at r) (after_colr r) x refl)))

  -- all boxes of jp2h, one after the other
  abbrev tail : List ℕ
  tail = bpcc r.components (fields_of r) ++ (colr (fields_of r) r.profile ++ (cdef r.components (fields_of r) ++ []))

  all_read : (n : ℕ) → length (ihdr (fields_of r) ++ tail) ≤ n → read_all (split n 40 (ihdr (fields_of r) ++ tail)) (with_imgstate 0 after_type) ≡ accepted (after_cdef r)
  all_read n h =
      let a = ihdr-step n tail h in
      let b = bpcc-step a.fuel (colr (fields_of r) r.profile ++ (cdef r.components (fields_of r) ++ [])) a.enough in
      let c = colr-step b.fuel (cdef r.components (fields_of r) ++ []) b.enough in
      let d = cdef-step c.fuel [] c.enough in
      let first : read_all (split n 40 (ihdr (fields_of r) ++ tail)) (with_imgstate 0 after_type) ≡ read_all (split a.fuel 62 tail) (after_ihdr r) = rw (length-ihdr (fields_of r)) at a.same in
      first ∙ b.same ∙ c.same ∙ d.same ∙ no_more d.fuel (cdef_at r + length (cdef r.components (fields_of r))) (after_cdef r)

  -- ihdr is the first of them
  has-ihdr : (n : ℕ) (rest : List ℕ) → length (ihdr (fields_of r) ++ rest) ≤ n → lacks_ihdr (split n 40 (ihdr (fields_of r) ++ rest)) ≡ false
  unfolding lacks_ihdr
  has-ihdr zero rest h = absurd (omega (arith, length-append (ihdr (fields_of r)) rest, length-ihdr (fields_of r)))
  has-ihdr (suc n) rest h = rw (split-box IHDR (ihdr_content (fields_of r)) rest (rw (length-ihdr_content (fields_of r)) (omega arith)) (omega arith) n 40, kinds_and_numbers.kind_back IHDR tt) refl

  grouped : jp2h_content r.components (fields_of r) r.profile ≡ ihdr (fields_of r) ++ tail
  grouped = simp (append_assoc, append-nil)

  pub jp2h-read : walk.jp2h 32 40 (jp2h_content r.components (fields_of r) r.profile) after_type ≡ accepted (with_header_bit (after_cdef r))
  unfolding walk.jp2h
  jp2h-read =
      let c = ihdr (fields_of r) ++ tail in
      let reads : read_all (boxes 40 c) (with_imgstate 0 after_type) ≡ accepted (after_cdef r) = all_read (length c) (omega arith) in
      let has : lacks_ihdr (boxes 40 c) ≡ false = has-ihdr (length c) tail (omega arith) in
      rw grouped (sym (row 1 _ (omega arith) (rw reads (row 1 _ (has, tt) refl))))

  pub length_children : length (jp2h_content r.components (fields_of r) r.profile) ≡ 22 + length (bpcc r.components (fields_of r)) + length (colr (fields_of r) r.profile) + length (cdef r.components (fields_of r))
  length_children = simp (length-append, length-ihdr)

  pub children_most : length (jp2h_content r.components (fields_of r) r.profile) ≤ 16891958
  children_most = omega (arith, length_children, bpcc-most, colr-most, cdef-most)
