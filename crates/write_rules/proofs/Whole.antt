-- The file as it was written, read box by box up to the codestream.
-- Assumes nothing.
use Prim.Native.Nat.{ℕ, ◌+◌, ◌≤◌}
use mathlib.Core.Path.{◌≡◌, refl, sym, ap}
use mathlib.Core.List.{List, ◌++◌, append_assoc}
use native.Mathlib.Omega.{arith}
use lib.ListN.{length, length-append}
use Rattle.box_number.specs.Number.{number, bytes}
use Rattle.box_number.specs.Table.{table}
use Rattle.box_number.proofs.Rows.{row}
use Rattle.box_number.proofs.Bytes.{length-bytes}
use Rattle.box_kind.proofs.KindNumbers.{kinds_and_numbers}
use Rattle.box_kind.specs.Kind.{kind_of, tag}
use Rattle.box_kind.specs.declared.Jp2BoxType.TheVariants.{JP, FTYP, JP2H, JP2C}
use Rattle.read_record.specs.declared.Jp2.{Jp2}
use Rattle.read_record.specs.Record.{blank, with_state}
use Rattle.read_record.specs.State.{header_bit, with_bit}
use Rattle.read_record.specs.Answer.{accepted}
use Rattle.read_signature.specs.Signature as reading
use Rattle.read_signature.specs.FileType as typing
use Rattle.read_jp2h.specs.Split.{split}
use Rattle.read_jp2h.specs.Jp2h.{with_header_bit}
use Rattle.read_rules.specs.File.{codestream, outer, run, walk, read}
use Rattle.write_rules.specs.Request.{Request}
use Rattle.write_rules.specs.Setup.{fields_of}
use Rattle.read_signature.specs.Signature.{signature_content}
use Rattle.write_rules.specs.Signature.{signature}
use Rattle.write_rules.specs.FileType.{file_type_content, file_type}
use Rattle.write_rules.specs.Jp2h.{jp2h, jp2h_content}
use Rattle.write_rules.specs.Stream.{stream_header}
use Rattle.write_rules.specs.Writing.{front}
use Rattle.write_rules.proofs.Splitting.{box_at}
use Rattle.write_rules.proofs.Lengths.{length-header, length-box, length-signature, length-type}
use Rattle.write_rules.proofs.Steps.{onward, file-box, stream-box}
use Rattle.write_rules.proofs.Bounds.{Fit}
use Rattle.write_rules.proofs.Header.{after_type, after_cdef, jp2h-read, children_most}

-- the two boxes that are the same in every file
signature-read : outer (box_at JP 0 (bytes 4 signature_content)) blank ≡ accepted (with_state 1 blank)
unfolding kind_of outer reading.signature table number bytes
signature-read = refl

type-read : outer (box_at FTYP 12 file_type_content) (with_state 1 blank) ≡ accepted after_type
unfolding kind_of outer typing.file_type table number bytes
type-read = refl

-- the file, box by box
abbrev pub whole : Request → List ℕ → List ℕ
whole r stream = signature ++ (file_type ++ (jp2h r.components (fields_of r) r.profile ++ (stream_header r.codestream ++ stream)))

pub front-is : (r : Request) (stream : List ℕ) → front r.components (fields_of r) r.profile r.codestream ++ stream ≡ whole r stream
unfolding front
front-is r stream = simp append_assoc

-- the record
abbrev pub found : Request → Jp2
found r = let k = with_header_bit (after_cdef r) in with_state (with_bit 8 k.status.state) k

module _ (r : Request) (fit : Fit r) where
  pub length_front : length (front r.components (fields_of r) r.profile r.codestream) ≡ 48 + length (jp2h_content r.components (fields_of r) r.profile)
  unfolding front
  length_front = simp (length-append, length-signature, length-type, length-box, length-header) (omega arith)

  header_read : outer (box_at JP2H 32 (jp2h_content r.components (fields_of r) r.profile)) after_type ≡ accepted (with_header_bit (after_cdef r))
  unfolding outer
  header_read = rw (kinds_and_numbers.kind_back JP2H tt) (sym (row 2 _ (omega arith) (sym (jp2h-read r fit))))

  headed : header_bit (with_header_bit (after_cdef r)) ≡ 0 → ⊥
  unfolding with_bit table
  headed e = omega arith

  run-stream : (stream : List ℕ) (n at : ℕ) → length (stream_header r.codestream ++ stream) ≤ n → run (split n at (stream_header r.codestream ++ stream)) (with_header_bit (after_cdef r)) ≡ codestream (at + 8) (found r)
  run-stream stream n at h =
      let s = fit.codestream in
      let l = length-append (stream_header r.codestream) stream in
      let e = length-header JP2C r.codestream in
      stream-box (with_header_bit (after_cdef r)) headed n at r.codestream stream (omega arith) (omega arith)

  run-whole : (stream : List ℕ) (n : ℕ) → length (whole r stream) ≤ n → run (split n 0 (whole r stream)) blank ≡ codestream (40 + length (jp2h_content r.components (fields_of r) r.profile) + 8) (found r)
  run-whole stream n h =
      let s = stream_header r.codestream ++ stream in
      let most = children_most r fit in
      onward (file-box JP (bytes 4 signature_content) (file_type ++ (jp2h r.components (fields_of r) r.profile ++ s)) (rw length-bytes (omega arith)) (omega arith) n 0 blank (with_state 1 blank) (λ e. omega (arith, ap tag (kinds_and_numbers.kind_back JP tt))) h signature-read) 12 (omega (arith, length-signature))
      λ n h.
      onward (file-box FTYP file_type_content (jp2h r.components (fields_of r) r.profile ++ s) (simp (length-append, length-bytes) (omega arith)) (omega arith) n 12 (with_state 1 blank) after_type (λ e. omega (arith, ap tag (kinds_and_numbers.kind_back FTYP tt))) h type-read) 32 (omega (arith, length-type))
      λ n h.
      onward (file-box JP2H (jp2h_content r.components (fields_of r) r.profile) s (omega arith) (omega arith) n 32 after_type (with_header_bit (after_cdef r)) (λ e. omega (arith, ap tag (kinds_and_numbers.kind_back JP2H tt))) h header_read) (40 + length (jp2h_content r.components (fields_of r) r.profile)) (omega (arith, length-box JP2H (jp2h_content r.components (fields_of r) r.profile)))
      λ n h. run-stream stream n (40 + length (jp2h_content r.components (fields_of r) r.profile)) h

  pub reads : (stream : List ℕ) → length (front r.components (fields_of r) r.profile r.codestream) + length stream ≤ 4294967295 → read (front r.components (fields_of r) r.profile r.codestream ++ stream) ≡ codestream (length (front r.components (fields_of r) r.profile r.codestream)) (found r)
  unfolding walk
  reads stream h =
      let l = length-append (front r.components (fields_of r) r.profile r.codestream) stream in
      let offset : 40 + length (jp2h_content r.components (fields_of r) r.profile) + 8 ≡ length (front r.components (fields_of r) r.profile r.codestream) = omega (arith, length_front) in
      sym (row 1 _ (omega arith) (rw (front-is r stream, ← offset) (sym (run-whole stream (length (whole r stream)) (omega arith)))))
