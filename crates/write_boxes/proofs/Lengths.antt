-- The lengths of the boxes are those that the code computes, and have bounds.
-- Assumes nothing.
use Prim.Native.Nat.{ℕ, ◌+◌, ◌*◌, ◌≤◌}
use native.Mathlib.Omega.{arith}
use mathlib.Core.Path.{◌≡◌, refl, sym, ap, ◌∙◌}
use mathlib.Core.Bool.{true, false}
use mathlib.Core.List.{List, []}
use lib.ListN.{length, length-append}
use Rattle.box_number.specs.Number.{bytes}
use Rattle.box_number.proofs.Bytes.{length-bytes}
use Rattle.box_number.specs.Table.{◌=?◌, ◌≠?◌, otherwise, ◌⇒◌∣◌}
use Rattle.box_number.proofs.Rows.{Says, row, each}
use Rattle.box_kind.specs.declared.Jp2BoxType.TheVariants.{BPCC, CDEF, COLR}
use Rattle.write_rules.specs.declared.Fields.{Fields}
use Rattle.write_rules.specs.Setup.{varies}
use Rattle.write_rules.specs.Box.{box}
use Rattle.write_rules.specs.Bpcc.{bpcc_content, bpcc}
use Rattle.write_rules.specs.Colr.{specification, colr_content, colr}
use Rattle.write_rules.specs.Cdef.{cdef_content, cdef}
use Rattle.write_rules.specs.Jp2h.{jp2h_content}
use Rattle.write_rules.specs.Writing.{most_profile}
use Rattle.write_rules.proofs.Lengths.{length-box, length-ihdr, length-bpcc_content, length-colr_content, length-cdef_content}
use Rattle.write_boxes.specs.Private.Lengths.{bpcc_length, colr_length, cdef_length, jp2h_length}

module _ (s : Fields) where
  -- each row of the lengths
  pub bpcc-none : Says true (s.bpc ≠? varies) → 0 ≡ bpcc_length s
  unfolding bpcc_length
  bpcc-none h = row 0 _ h refl

  pub bpcc-some : Says false (s.bpc ≠? varies) → 8 + s.numcomps ≡ bpcc_length s
  unfolding bpcc_length
  bpcc-some h = row 1 _ (h, tt) refl

  colr-enumerated : (profile : ℕ) → Says true (s.meth =? 1) → 15 ≡ colr_length s profile
  unfolding colr_length
  colr-enumerated profile h = row 0 _ h refl

  colr-profile : (profile : ℕ) → Says false (s.meth =? 1) → 11 + profile ≡ colr_length s profile
  unfolding colr_length
  colr-profile profile h = row 1 _ (h, tt) refl

  pub cdef-none : Says true (s.definitions =? 0) → 0 ≡ cdef_length s
  unfolding cdef_length
  cdef-none h = row 0 _ h refl

  pub cdef-some : Says false (s.definitions =? 0) → 10 + 6 * s.definitions ≡ cdef_length s
  unfolding cdef_length
  cdef-some h = row 1 _ (h, tt) refl

  -- and of the boxes
  pub bpcc-empty : (comps : List ℕ) → Says true (s.bpc ≠? varies) → [] ≡ bpcc comps s
  unfolding bpcc
  bpcc-empty comps h = row 0 _ h refl

  pub bpcc_full : (comps : List ℕ) → Says false (s.bpc ≠? varies) → box BPCC (bpcc_content comps s.numcomps) ≡ bpcc comps s
  unfolding bpcc
  bpcc_full comps h = row 1 _ (h, tt) refl

  pub specification-enumerated : (profile : List ℕ) → Says true (s.meth =? 1) → bytes 4 s.enumcs ≡ specification s profile
  unfolding specification
  specification-enumerated profile h = row 0 _ h refl

  pub specification-profile : (profile : List ℕ) → Says false (s.meth =? 1) → profile ≡ specification s profile
  unfolding specification
  specification-profile profile h = row 1 _ (h, tt) refl

  pub cdef-empty : (comps : List ℕ) → Says true (s.definitions =? 0) → [] ≡ cdef comps s
  unfolding cdef
  cdef-empty comps h = row 0 _ h refl

  pub cdef_full : (comps : List ℕ) → Says false (s.definitions =? 0) → box CDEF (cdef_content comps s) ≡ cdef comps s
  unfolding cdef
  cdef_full comps h = row 1 _ (h, tt) refl

  pub bpcc-length : (comps : List ℕ) → length (bpcc comps s) ≡ bpcc_length s
  unfolding bpcc
  bpcc-length comps =
      each (λ xs. length xs ≡ bpcc_length s) (s.bpc ≠? varies ⇒ [] ∣ otherwise (box BPCC (bpcc_content comps s.numcomps)))
      (bpcc-none, λ h. length-box BPCC (bpcc_content comps s.numcomps) ∙ ap (λ n. 8 + n) (length-bpcc_content comps s.numcomps) ∙ bpcc-some h)

  -- what the method asks for is what is left of the box
  pub specification-length : (profile : List ℕ) → colr_length s (length profile) ≡ 11 + length (specification s profile)
  unfolding specification
  specification-length profile =
      each (λ xs. colr_length s (length profile) ≡ 11 + length xs) (s.meth =? 1 ⇒ bytes 4 s.enumcs ∣ otherwise profile)
      ((λ h. omega (arith, colr-enumerated (length profile) h, length-bytes 4 s.enumcs)), λ h. sym (colr-profile (length profile) h))

  pub colr-length : (profile : List ℕ) → length (colr s profile) ≡ colr_length s (length profile)
  colr-length profile = length-box COLR (colr_content s profile) ∙ omega (arith, length-colr_content s profile, specification-length profile)

  pub cdef-length : (comps : List ℕ) → length (cdef comps s) ≡ cdef_length s
  unfolding cdef
  cdef-length comps =
      each (λ xs. length xs ≡ cdef_length s) (s.definitions =? 0 ⇒ [] ∣ otherwise (box CDEF (cdef_content comps s)))
      (cdef-none, λ h. length-box CDEF (cdef_content comps s) ∙ omega (arith, length-cdef_content comps s, cdef-some h))

  -- and at most
  pub colr-most : (profile : ℕ) → profile ≤ most_profile → colr_length s profile ≤ 16777226
  unfolding colr_length
  colr-most profile h = each (λ n. n ≤ 16777226) _ ((λ _. omega arith), λ _. omega arith)

  pub jp2h-length : (comps profile : List ℕ) → length (jp2h_content comps s profile) ≡ jp2h_length s (length profile)
  jp2h-length comps profile = rw (length-append, length-append, length-append, length-ihdr s, bpcc-length comps, colr-length profile, cdef-length comps)
