-- What the round trip says leaves one record.
-- Assumes nothing.
use Prim.Native.Nat.{ℕ, ◌+◌, ◌<◌}
use mathlib.Core.Path.{◌≡◌, refl, sym, ap, ◌∙◌}
use mathlib.Core.List.{List}
use mathlib.Core.Logic.{inl}
use native.Mathlib.Omega.{arith}
use lib.ListN.{length}
use Rattle.box_number.proofs.Rows.{row}
use Rattle.read_record.specs.declared.Jp2.{Jp2}
use Rattle.read_record.specs.Record.{jp2, span, lists}
use Rattle.write_rules.specs.Request.{Request}
use Rattle.write_rules.specs.Words.{Corners}
use Rattle.write_rules.specs.RoundTrip.{depth_byte, bpcc_bytes, ReadBack, OneRecord}
use Rattle.write_rules.proofs.Words.{bits_or, profile_or, opacity_or}

-- where bpc is not 255 it is the byte for every component
byte-is : (f : List ℕ) (m : Jp2) (c : ℕ) → (m.image.bpc ≡ 255 → ⊥) → m.image.bpc ≡ depth_byte f m c
unfolding depth_byte
byte-is f m c n = row 1 _ (n, tt) refl

module _ (r : Request) (f : List ℕ) (m n : Jp2) (corners : Corners r) (some : 0 < r.count) (a : ReadBack r f m) (b : ReadBack r f n) where
  bpc-same : m.image.bpc ≡ n.image.bpc
  bpc-same =
      bits_or r
      (λ s.
      let x = byte-is f m 0 (a.depths.same s).0 in
      let y = byte-is f n 0 (b.depths.same s).0 in
      let p = a.depths.bits 0 (omega arith) in
      let q = b.depths.bits 0 (omega arith) in
      let s = a.depths.signs 0 (omega arith) (inl refl) in
      let t = b.depths.signs 0 (omega arith) (inl refl) in
      omega arith)
      (λ c o. (a.depths.other c o).0 ∙ sym (b.depths.other c o).0)

  bpcc-same : m.lists.bpcc ≡ n.lists.bpcc
  bpcc-same = bits_or r (λ s. (a.depths.same s).1 ∙ sym (b.depths.same s).1) (λ c o. (a.depths.other c o).1 ∙ sym (b.depths.other c o).1)

  image-same : m.image ≡ n.image
  image-same =
      let s = a.size corners in
      let t = b.size corners in
      let h : m.image.h ≡ n.image.h = omega (arith, s.height, s.high, t.height, t.high) in
      let w : m.image.w ≡ n.image.w = omega (arith, s.width, s.wide, t.width, t.wide) in
      let c = a.depths.count ∙ sym b.depths.count in
      let p = a.always.c ∙ sym b.always.c in
      let u = a.always.unkc ∙ sym b.always.unkc in
      let i = a.always.ipr ∙ sym b.always.ipr in
      λ k. record { h = h k; w = w k; numcomps = c k; bpc = bpc-same k; c = p k; unkc = u k; ipr = i k }

  colour-same : m.colour ≡ n.colour
  colour-same =
      let meth : m.colour.meth ≡ n.colour.meth = profile_or r (λ e. (a.colour.space e).0 ∙ sym (b.colour.space e).0) (λ e. (a.colour.profiled e).0 ∙ sym (b.colour.profiled e).0) in
      let enumcs : m.colour.enumcs ≡ n.colour.enumcs = profile_or r (λ e. (a.colour.space e).1 ∙ sym (b.colour.space e).1) (λ e. (a.colour.profiled e).1 ∙ sym (b.colour.profiled e).1) in
      let precedence = a.always.precedence ∙ sym b.always.precedence in
      let approx = a.always.approximation ∙ sym b.always.approximation in
      let lab = a.always.lab ∙ sym b.always.lab in
      let labs = a.always.labs ∙ sym b.always.labs in
      let held = a.always.held ∙ sym b.always.held in
      λ k. record { meth = meth k; precedence = precedence k; approx = approx k; enumcs = enumcs k; lab = record { numbers = lab k; count = labs k }; held = held k }

  moves-same : bpcc_bytes m ≡ bpcc_bytes n
  unfolding bpcc_bytes
  moves-same = rw bpcc-same refl

  icc_same : m.lists.icc ≡ n.lists.icc
  icc_same =
      profile_or r
      (λ e. (a.colour.space e).2 ∙ sym (b.colour.space e).2)
      (λ e. (a.colour.profiled e).2 ∙ ap (λ (x : ℕ). span (73 + x) (length r.profile)) moves-same ∙ sym (b.colour.profiled e).2)

  cdef-same : m.lists.cdef ≡ n.lists.cdef
  cdef-same =
      opacity_or r
      (λ o p. (a.channels.defined o p).list ∙ ap (λ (x : ℕ). span (87 + x) r.count) moves-same ∙ sym (b.channels.defined o p).list)
      (λ e. a.channels.undefined e ∙ sym (b.channels.undefined e))

  same_record : m ≡ n
  same_record =
      let brand = a.filetype.brand ∙ sym b.filetype.brand in
      let version = a.filetype.version ∙ sym b.filetype.version in
      let cl = a.filetype.list ∙ sym b.filetype.list in
      let pclr = a.always.palette ∙ sym b.always.palette in
      let cmap = a.always.mappings ∙ sym b.always.mappings in
      let status = a.always.status ∙ sym b.always.status in
      λ k.
      jp2 (image-same k) (colour-same k) (record { brand = brand k; minversion = version k }) (lists (cl k) (bpcc-same k) (icc_same k) (pclr k) (cmap k) (cdef-same k)) (status k)

pub one_record : OneRecord
one_record r f m n corners some a b = same_record r f m n corners some a b
