-- What is written is read back.
-- Assumes nothing.
use Prim.Native.Nat.{ℕ, ◌+◌, ◌-◌, ◌*◌, ◌/◌, ◌%◌, ◌≤◌, ◌<◌}
use mathlib.Core.Path.{◌≡◌, refl, sym, ap, ap₂, ◌∙◌}
use mathlib.Core.List.{List, [], ◌++◌, append_assoc, append-nil}
use mathlib.Core.Logic.{⊎_elim}
use native.Mathlib.Omega.{arith}
use lib.ListN.{length, length-append}
use Rattle.std.proofs.lemmas.List.{nil_from_length}
use Rattle.box_number.specs.Number.{number, part, bytes}
use Rattle.box_number.specs.Table.{◌≠?◌, table}
use Rattle.box_number.proofs.Rows.{row, each}
use Rattle.box_number.proofs.Bytes.{length-bytes}
use Rattle.box_kind.specs.declared.Jp2BoxType.TheVariants.{JP2H, JP2C, BPCC, COLR, CDEF}
use Rattle.read_record.specs.Record.{span}
use Rattle.read_record.specs.State.{with_bit}
use Rattle.read_signature.specs.FileType as typing
use Rattle.read_image.specs.Bpcc as image
use Rattle.read_rules.proofs.Parts.{Lies, lies_whole}
use Rattle.read_channels.specs.Definitions.{Def, def}
use Rattle.read_channels.specs.Definitions as order
use Rattle.box_number.proofs.Indices.{decide}
use Rattle.write_rules.specs.Request.{Request, precision, sign_of}
use Rattle.write_rules.specs.Words.{Corners, SignTold, Opacity}
use Rattle.write_rules.specs.Setup.{varies, BPCi, PREC, APPROX, written_definition, fields_of}
use Rattle.write_rules.specs.Box.{box_header, box, series}
use Rattle.write_rules.specs.Signature.{signature}
use Rattle.write_rules.specs.FileType.{CL, file_type}
use Rattle.write_rules.specs.Ihdr.{ihdr}
use Rattle.write_rules.specs.Bpcc.{bpcc, bpcc_content}
use Rattle.write_rules.specs.Colr.{colr, specification, colr_content}
use Rattle.write_rules.specs.Cdef.{cdef_entry, cdef, cdef_content}
use Rattle.write_rules.specs.Jp2h.{jp2h, jp2h_content}
use Rattle.write_rules.specs.Stream.{stream_header}
use Rattle.write_rules.specs.Writing.{front}
use Rattle.write_rules.specs.RoundTrip.{depth_byte, bpcc_bytes, SizeBack, DepthsBack, ColourBack, DefinedBack, ChannelsBack, AlwaysBack, RoundTrip, StreamLength, FileFits}
use Rattle.write_rules.proofs.Numbers.{number-last, number-after}
use Rattle.write_rules.proofs.Splitting.{lbox, tbox}
use Rattle.write_rules.proofs.Bounds.{Fit, accepted-fits, wrapping_back, wrapping-most, byte-most, byte-precision, byte-sign, one-depth, n-most, no-space, meth-cases, definition-most}
use Rattle.write_rules.proofs.Words.{other-bits, one_byte, meth-enumerated, meth-profiled, space-is, all-defined, none-defined, colour-written, opacity-written, rest-written}
use Rattle.write_rules.proofs.Lengths.{length-header, length-box, length-signature, length-type, length-ihdr, length-bpcc_content, length-series, length-cdef_entry}
use Rattle.write_rules.proofs.Children.{spec_two}
use Rattle.write_rules.proofs.Header.{colr_at, cdef_at, bits_at, icc_at, defs_at, bpcc-none, bpcc-some, icc_none, icc_some, cdef-none, cdef-some, children_most}
use Rattle.write_rules.proofs.Places.{lies_right, lies_left, lies_content, number_lies, part_lies, number-series}
use Rattle.write_rules.proofs.Whole.{whole, front-is, found, length_front, reads}
use Rattle.write_rules.proofs.Accepts.{space-length}

grouped : (a b c d : List ℕ) → a ++ b ++ c ++ d ≡ a ++ (b ++ (c ++ d))
grouped a b c d = simp append_assoc

fields_back : (d : Def) → (d.channel < 65536) × (d.typ < 65536) × (d.asoc < 65536) → (number (cdef_entry d) 0 2 ≡ d.channel) × (number (cdef_entry d) 2 2 ≡ d.typ) × (number (cdef_entry d) 4 2 ≡ d.asoc)
unfolding number bytes
fields_back d h = (omega arith, omega arith, omega arith)

module _ (r : Request) (fit : Fit r) (stream : List ℕ) where
  abbrev f : List ℕ
  f = front r.components (fields_of r) r.profile r.codestream ++ stream

  -- the places of the boxes of jp2h
  file_lies : Lies f 0 (signature ++ (file_type ++ (jp2h r.components (fields_of r) r.profile ++ (stream_header r.codestream ++ stream))))
  file_lies = rw (front-is r stream) (lies_whole (whole r stream))

  header_lies : Lies f 40 (ihdr (fields_of r) ++ (bpcc r.components (fields_of r) ++ (colr (fields_of r) r.profile ++ cdef r.components (fields_of r))))
  header_lies =
      let s = stream_header r.codestream ++ stream in
      let a = lies_right signature (file_type ++ (jp2h r.components (fields_of r) r.profile ++ s)) file_lies 12 (omega (arith, length-signature)) in
      let b = lies_right file_type (jp2h r.components (fields_of r) r.profile ++ s) a 32 (omega (arith, length-type)) in
      let c = lies_content JP2H (jp2h_content r.components (fields_of r) r.profile) (lies_left (jp2h r.components (fields_of r) r.profile) s b) in
      rw (grouped (ihdr (fields_of r)) (bpcc r.components (fields_of r)) (colr (fields_of r) r.profile) (cdef r.components (fields_of r))) at c

  after-ihdr : Lies f 62 (bpcc r.components (fields_of r) ++ (colr (fields_of r) r.profile ++ cdef r.components (fields_of r)))
  after-ihdr = lies_right (ihdr (fields_of r)) (bpcc r.components (fields_of r) ++ (colr (fields_of r) r.profile ++ cdef r.components (fields_of r))) header_lies 62 (rw (length-ihdr (fields_of r)) refl)

  after-bpcc : Lies f (colr_at r) (colr (fields_of r) r.profile ++ cdef r.components (fields_of r))
  after-bpcc = lies_right (bpcc r.components (fields_of r)) (colr (fields_of r) r.profile ++ cdef r.components (fields_of r)) after-ihdr (colr_at r) refl

  cdef_lies : Lies f (cdef_at r) (cdef r.components (fields_of r))
  cdef_lies = lies_right (colr (fields_of r) r.profile) (cdef r.components (fields_of r)) after-bpcc (cdef_at r) refl

  -- the compatibility list's entry
  entry_back : typing.CL f (span 28 1) 0 ≡ CL
  unfolding front box box_header bytes number
  entry_back = refl

  -- the bytes of bpcc
  depth_back : (i : ℕ) → i < (bits_at r).count → image.BPCi f (bits_at r) i ≡ BPCi r.components i
  depth_back i =
      decide ((fields_of r).bpc ≠? varies)
      (λ h. rw (bpcc-none r h).1 (λ l. absurd (omega arith)))
      (λ h.
      let e = bpcc-some r h in
      let p : Lies f 70 (bpcc_content r.components r.count) = lies_content BPCC (bpcc_content r.components r.count) (rw e.0 at (lies_left (bpcc r.components (fields_of r)) (colr (fields_of r) r.profile ++ cdef r.components (fields_of r)) after-ihdr)) in
      let at : 1 * i + 0 ≡ i = omega arith in
      rw e.1
      (λ l.
      number_lies p i 1 (omega (arith, length-bpcc_content r.components r.count))
      ∙ rw at at (number-series (λ c. bytes 1 (BPCi r.components c)) 1 (λ c. length-bytes 1 (BPCi r.components c)) r.count i 0 1 l (omega arith))
      ∙ number-last 1 (BPCi r.components i) (omega arith) (byte-most r fit i l)))

  -- the bits of each component
  bits_back : (c : ℕ) → c < r.count → depth_byte f (found r) c % 128 + 1 ≡ precision r.components c
  unfolding depth_byte
  bits_back c l =
      each (λ (b : ℕ). b % 128 + 1 ≡ precision r.components c) _ (
        (λ h. rw (depth_back c (rw (bpcc-some r h).1 l)) (byte-precision r fit c l)),
        λ h. let d = one-depth r fit h in rw d.0 (byte-precision r fit 0 fit.some ∙ sym (d.1 c l)),
      )

  -- and the sign of each that the file tells
  signs_back : (c : ℕ) → c < r.count → SignTold r c → depth_byte f (found r) c / 128 ≡ sign_of r.components c
  unfolding depth_byte
  signs_back c l told =
      each (λ (b : ℕ). b / 128 ≡ sign_of r.components c) _ (
        (λ h. rw (depth_back c (rw (bpcc-some r h).1 l)) (byte-sign r fit c l)),
        λ h.
            let first : sign_of r.components 0 ≡ sign_of r.components c = ⊎_elim (λ e. sym e) (λ o. absurd (h (other-bits r o.0 o.1))) told in
            rw (one-depth r fit h).0 (byte-sign r fit 0 fit.some ∙ first),
      )

  depths_back : DepthsBack r f (found r)
  depths_back =
      record {
        count = refl;
        bits = λ c l. bits_back c (omega arith);
        signs = λ c l told. signs_back c (omega (arith, fit.some)) told;
        same = λ s. let one = one_byte r fit s in (one, (bpcc-none r one).1);
        other = λ c o. let many = other-bits r c o in (many, (bpcc-some r many).1);
      }

  -- the bytes of bpcc, in the file and in the record
  bpcc-moves : length (bpcc r.components (fields_of r)) ≡ bpcc_bytes (found r)
  unfolding bpcc_bytes
  bpcc-moves =
      decide ((fields_of r).bpc ≠? varies)
      (λ h. let e = bpcc-none r h in rw (e.0, e.1) (row 0 _ refl refl))
      (λ h. let e = bpcc-some r h in let s = fit.some in rw (e.0, e.1, length-box, length-bpcc_content r.components r.count) (row 1 _ ((λ z. omega arith), tt) refl))

  -- the profile
  profile_back : part f (icc_at r).place ((icc_at r).place + (icc_at r).count) ≡ r.profile
  unfolding part
  profile_back =
      meth-cases r
      (λ e z. rw (icc_none r e) (sym (nil_from_length r.profile z)))
      (λ e z.
      let p : Lies f (colr_at r + 8) (colr_content (fields_of r) r.profile) = lies_content COLR (colr_content (fields_of r) r.profile) (lies_left (colr (fields_of r) r.profile) (cdef r.components (fields_of r)) after-bpcc) in
      let three : length (bytes 1 (fields_of r).meth ++ bytes 1 PREC ++ bytes 1 APPROX) ≡ 3 = simp (length-append, length-bytes) in
      let q : Lies f (colr_at r + 8 + 3) (specification (fields_of r) r.profile) = lies_right (bytes 1 (fields_of r).meth ++ bytes 1 PREC ++ bytes 1 APPROX) (specification (fields_of r) r.profile) p (colr_at r + 8 + 3) (omega arith) in
      rw (icc_some r e) (part_lies (rw (spec_two r fit e) at q)))

  colour_back : ColourBack r f (found r)
  colour_back =
      let moves = bpcc-moves in
      record {
        space = λ e. let one = meth-enumerated r e in (one, space-is r e, icc_none r one);
        profiled = λ n.
            let two = meth-profiled r n in
            let at : colr_at r + 8 + 3 ≡ 73 + bpcc_bytes (found r) = omega arith in
            (two, no-space r two, icc_some r two ∙ ap (λ (p : ℕ). span p (length r.profile)) at);
        profile = profile_back;
      }

  -- the definitions
  abbrev piece : ℕ → List ℕ
  piece c = cdef_entry (written_definition r.components (fields_of r).colours c)

  module _ (some : (fields_of r).definitions ≡ 0 → ⊥) (i : ℕ) (l : i < (fields_of r).definitions) where
    abbrev place : ℕ
    place = cdef_at r + 8 + 2

    series_lies : Lies f place (series piece (fields_of r).definitions)
    series_lies =
        let e = (cdef-some r some).0 in
        lies_right (bytes 2 (fields_of r).definitions) (series piece (fields_of r).definitions) (lies_content CDEF (cdef_content r.components (fields_of r)) (rw e at cdef_lies)) place (omega (arith, length-bytes 2 (fields_of r).definitions))

    -- a number of definition i
    field_back : (at j : ℕ) → at ≡ place + (6 * i + j) → j + 2 ≤ 6 → number f at 2 ≡ number (piece i) j 2
    field_back at j e h =
        let s = length-series piece 6 (λ c. length-cdef_entry (written_definition r.components (fields_of r).colours c)) (fields_of r).definitions in
        rw e (number_lies series_lies (6 * i + j) 2 (omega arith) ∙ number-series piece 6 (λ c. length-cdef_entry (written_definition r.components (fields_of r).colours c)) (fields_of r).definitions i j 2 l h)

    definition-is : order.definition f (span place (fields_of r).definitions) i ≡ written_definition r.components (fields_of r).colours i
    definition-is =
        let d = fields_back (written_definition r.components (fields_of r).colours i) (definition-most r i (omega (arith, n-most r fit, fit.most))) in
        let x = field_back (place + 6 * i) 0 (omega arith) (omega arith) ∙ d.0 in
        let y = field_back (place + 6 * i + 2) 2 (omega arith) (omega arith) ∙ d.1 in
        let z = field_back (place + 6 * i + 4) 4 (omega arith) (omega arith) ∙ d.2 in
        λ k. def (x k) (y k) (z k)

  definition_back : (i : ℕ) → i < (fields_of r).definitions → order.definition f (defs_at r) i ≡ written_definition r.components (fields_of r).colours i
  definition_back i l = let some : (fields_of r).definitions ≡ 0 → ⊥ = λ e. omega arith in rw (cdef-some r some).1 (definition-is some i l)

  module _ (o : ℕ) (p : Opacity r o) where
    list_back : defs_at r ≡ span (87 + bpcc_bytes (found r)) r.count
    list_back =
        let n = all-defined r o p in
        let there = p.there in
        let moves = bpcc-moves in
        let colour = space-length r fit p.enumerated in
        let at : cdef_at r + 8 + 2 ≡ 87 + bpcc_bytes (found r) = omega arith in
        (cdef-some r (λ z. omega arith)).1 ∙ ap₂ span at n

    defined_back : DefinedBack r f (found r) o
    defined_back =
        let n = all-defined r o p in
        let there = p.there in
        let behind = p.behind in
        record {
          list = list_back;
          colours = λ c l. definition_back c (omega arith) ∙ colour-written r o p c (omega arith);
          opacity = definition_back o (omega arith) ∙ opacity-written r o p;
          rest = λ c l b d. definition_back c (omega arith) ∙ rest-written r o p c l b d;
        }

  channels_back : ChannelsBack r f (found r)
  channels_back = record { defined = defined_back; undefined = λ none. (cdef-none r (none-defined r none)).1 }

size_back : (r : Request) → Corners r → SizeBack r (found r)
size_back r corners =
    record {
      height = wrapping_back r.y1 r.y0 corners.bottom corners.top;
      high = wrapping-most r.y1 r.y0;
      width = wrapping_back r.x1 r.x0 corners.right (omega (arith, corners.left));
      wide = wrapping-most r.x1 r.x0;
    }

always_back : (r : Request) → AlwaysBack (found r)
unfolding with_bit table
always_back r = record { c = refl; unkc = refl; ipr = refl; precedence = refl; approximation = refl; held = refl; lab = refl; labs = refl; palette = refl; mappings = refl; status = refl }

pub round_trip : RoundTrip
round_trip r bs stream e h =
    let a = accepted-fits r bs e in
    let fit = a.0 in
    rw a.1 (
      found r,
      reads r fit stream (rw a.1 at h),
      record {
        filetype = record { brand = refl; version = refl; list = refl; entry = entry_back r fit stream };
        size = size_back r;
        depths = depths_back r fit stream;
        colour = colour_back r fit stream;
        channels = channels_back r fit stream;
        always = always_back r;
      },
    )

-- the numbers of a header that comes last
header-last : (p c : List ℕ) → length c ≡ 8 → (number (p ++ c) (length (p ++ c) - 8) 4 ≡ number c 0 4) × (number (p ++ c) (length (p ++ c) - 4) 4 ≡ number c 4 4)
header-last p c e =
    let l = length-append p c in
    let x : length (p ++ c) - 8 ≡ length p + 0 = omega arith in
    let y : length (p ++ c) - 4 ≡ length p + 4 = omega arith in
    (rw x (number-after p c 0 4), rw y (number-after p c 4 4))

pub stream-length : StreamLength
unfolding front
stream-length r bs e =
    let a = accepted-fits r bs e in
    let small = a.0.codestream in
    let header = stream_header r.codestream in
    let last = header-last (signature ++ file_type ++ jp2h r.components (fields_of r) r.profile) header (length-header JP2C r.codestream) in
    let l : number header 0 4 ≡ 8 + r.codestream = rw append-nil at (lbox JP2C r.codestream [] (omega arith) (omega arith)) in
    let t : number header 4 4 ≡ 0x6a703263 = rw append-nil at (tbox JP2C r.codestream [] (omega arith) (omega arith)) in
    rw a.1 (last.0 ∙ l, last.1 ∙ t)

pub file-fits : FileFits
file-fits r bs stream e s =
    let a = accepted-fits r bs e in
    let fit = a.0 in
    let t = fit.codestream in
    rw (a.1, s) (omega (arith, length_front r fit, children_most r fit))
