-- The lengths of boxes and of their contents.
-- Assumes nothing.
use Prim.Native.Nat.{ℕ, zero, suc, ◌+◌, ◌*◌}
use mathlib.Core.Path.{◌≡◌, refl, ◌∙◌}
use mathlib.Core.List.{List}
use native.Mathlib.Omega.{arith}
use lib.ListN.{length, length-append}
use Rattle.box_number.specs.Number.{bytes}
use Rattle.box_number.proofs.Bytes.{length-bytes}
use Rattle.box_kind.specs.declared.Jp2BoxType.{Jp2BoxType}
use Rattle.box_kind.specs.declared.Jp2BoxType.TheVariants.{JP, FTYP, IHDR}
use Rattle.read_channels.specs.Definitions.{Def}
use Rattle.write_rules.specs.declared.Fields.{Fields}
use Rattle.write_rules.specs.Box.{box_header, box, series}
use Rattle.write_rules.specs.Setup.{BPCi, written_definition}
use Rattle.read_signature.specs.Signature.{signature_content}
use Rattle.write_rules.specs.Signature.{signature}
use Rattle.write_rules.specs.FileType.{file_type_content, file_type}
use Rattle.write_rules.specs.Ihdr.{ihdr_content, ihdr}
use Rattle.write_rules.specs.Bpcc.{bpcc_content}
use Rattle.write_rules.specs.Colr.{specification, colr_content}
use Rattle.write_rules.specs.Cdef.{cdef_entry, cdef_entries, cdef_content}

pub length-header : (kind : Jp2BoxType) (n : ℕ) → length (box_header kind n) ≡ 8
unfolding box_header
length-header kind n = simp (length-append, length-bytes)

pub length-box : (kind : Jp2BoxType) (content : List ℕ) → length (box kind content) ≡ 8 + length content
unfolding box
length-box kind content = simp (length-append, length-header)

pub length-series : (piece : ℕ → List ℕ) (w : ℕ) → ((i : ℕ) → length (piece i) ≡ w) → (n : ℕ) → length (series piece n) ≡ w * n
unfolding series
length-series piece w h zero = omega arith
length-series piece w h (suc n) = let e = length-series piece w h n in let f = h n in simp (length-append, e, f) (omega arith)

pub length-signature : length signature ≡ 12
length-signature = length-box JP (bytes 4 signature_content) ∙ rw length-bytes refl

pub length-type : length file_type ≡ 20
length-type = length-box FTYP file_type_content ∙ simp (length-append, length-bytes)

pub length-ihdr_content : (s : Fields) → length (ihdr_content s) ≡ 14
length-ihdr_content s = simp (length-append, length-bytes)

pub length-ihdr : (s : Fields) → length (ihdr s) ≡ 22
length-ihdr s = length-box IHDR (ihdr_content s) ∙ rw (length-ihdr_content s) refl

pub length-bpcc_content : (comps : List ℕ) (n : ℕ) → length (bpcc_content comps n) ≡ n
length-bpcc_content comps n = omega (arith, length-series (λ c. bytes 1 (BPCi comps c)) 1 (λ i. length-bytes 1 (BPCi comps i)) n)

pub length-colr_content : (s : Fields) (profile : List ℕ) → length (colr_content s profile) ≡ 3 + length (specification s profile)
length-colr_content s profile = simp (length-append, length-bytes) (omega arith)

pub length-cdef_entry : (d : Def) → length (cdef_entry d) ≡ 6
length-cdef_entry d = simp (length-append, length-bytes)

pub length-cdef_entries : (comps : List ℕ) (many n : ℕ) → length (cdef_entries comps many n) ≡ 6 * n
length-cdef_entries comps many n = length-series (λ c. cdef_entry (written_definition comps many c)) 6 (λ i. length-cdef_entry (written_definition comps many i)) n

pub length-cdef_content : (comps : List ℕ) (s : Fields) → length (cdef_content comps s) ≡ 2 + 6 * s.definitions
length-cdef_content comps s = let e = length-cdef_entries comps s.colours s.definitions in simp (length-append, length-bytes, e)
