-- What `opj_jp2_setup_encoder` makes of a request: every field of every box, under the standard's names, or 31, 29 or 32.
use Rattle.std.specs.Prelude.{ℕ, zero, suc, ◌+◌, ◌-◌, ◌*◌, ◌%◌, List, length}
use Rattle.box_number.specs.Table.{Test, ◌=?◌, ◌≠?◌, ◌<?◌, ◌or◌, otherwise, ◌⇒◌∣◌, table}
use Rattle.box_refusal.specs.Told.{Told, accepted, refused}
use Rattle.read_record.specs.Component.{most_components, numbers_each}
use Rattle.read_colour.specs.Colr.{enumerated, profiled}
use Rattle.read_channels.specs.Definitions.{Def, def}
use Rattle.box_number.specs.Lowest.{lowest, some}
use Rattle.write_rules.specs.declared.Fields.{Fields}
use Rattle.write_rules.specs.Request.{Request, precision, sign_of, alpha_of}

-- a minus b, wrapping at 2^32
unfoldable pub wrapping : ℕ → ℕ → ℕ
wrapping a b = (a + 4294967296 - b) % 4294967296

-- I.5.3.1: the size of the picture's area. Difference 28: corners in the wrong order wrap.
abbrev pub HEIGHT : Request → ℕ
HEIGHT r = wrapping r.y1 r.y0

abbrev pub WIDTH : Request → ℕ
WIDTH r = wrapping r.x1 r.x0

-- I.5.3.2: of component c, its bits less 1, and its sign as the top bit; a precision of 0 is refused (32)
unfoldable pub BPCi : List ℕ → ℕ → ℕ
BPCi comps c = precision comps c - 1 + 128 * sign_of comps c

-- BPC where the components have not the same number of bits: a bpcc follows
abbrev pub varies : ℕ
varies = 255

-- the bits of component c are not those of component 0
abbrev pub other_bits : List ℕ → ℕ → Test
other_bits comps c = precision comps c ≠? precision comps 0

-- I.5.3.1: what all components have, or 255. Difference 23: signs that differ are not compared.
unfoldable pub BPC : List ℕ → ℕ → ℕ
BPC comps count = table (some (other_bits comps) count ⇒ varies ∣ otherwise (BPCi comps 0))

-- the compression is JPEG 2000's
abbrev pub C : ℕ
C = 7

-- the colour space is known, and there is no box on rights. Difference 24: UnkC is 0 for an unknown colour space too.
abbrev pub UnkC : ℕ
UnkC = 0

abbrev pub IPR : ℕ
IPR = 0

-- I.5.3.3: a profile (2), or an enumerated colour space (1)
unfoldable pub METH : List ℕ → ℕ
METH profile = table (length profile =? 0 ⇒ enumerated ∣ otherwise profiled)

-- both are 0 in every file
abbrev pub PREC : ℕ
PREC = 0

abbrev pub APPROX : ℕ
APPROX = 0

-- EnumCS of sRGB, greyscale and sYCC
abbrev pub srgb : ℕ
srgb = 16

abbrev pub greyscale : ℕ
greyscale = 17

abbrev pub sycc : ℕ
sycc = 18

-- by the crate's number of the colour space, whatever the count of components (difference 29); 0 with a profile, and for any other colour space (difference 24)
unfoldable pub EnumCS : ℕ → ℕ → ℕ
EnumCS meth space =
    table
    (meth =? profiled ⇒ 0
    ∣ space =? 1 ⇒ srgb
    ∣ space =? 2 ⇒ greyscale
    ∣ space =? 3 ⇒ sycc
    ∣ otherwise 0)

-- the count of colours of an enumerated colour space, 0 where it is not known
unfoldable pub colours : ℕ → ℕ
colours enumcs = table (enumcs =? srgb or enumcs =? sycc ⇒ 3 ∣ enumcs =? greyscale ⇒ 1 ∣ otherwise 0)

-- the count of marked components among the first n
unfoldable pub mark_count : List ℕ → ℕ → ℕ
mark_count comps zero = 0
mark_count comps (suc n) = table (alpha_of comps n ≠? 0 ⇒ suc (mark_count comps n) ∣ otherwise (mark_count comps n))

-- the first component that is marked
abbrev pub opacity : List ℕ → ℕ → ℕ
opacity comps count = lowest (λ c. alpha_of comps c ≠? 0) count

-- I.5.3.6: the count of definitions. Where exactly one component is marked, the colours are known and it is none of them, all components are defined; else none is, and there is no box
-- (difference 26).
unfoldable pub N : List ℕ → ℕ → ℕ → ℕ
N comps count many =
    table
    (mark_count comps count ≠? 1 ⇒ 0
    ∣ many =? 0 ⇒ 0
    ∣ opacity comps count <? many ⇒ 0
    ∣ otherwise count)

-- Typ of a colour and of an opacity; Typ and Asoc of a channel of which nothing is said; Asoc of the whole picture
abbrev pub colour_channel : ℕ
colour_channel = 0

abbrev pub opacity_channel : ℕ
opacity_channel = 1

abbrev pub unspecified : ℕ
unspecified = 65535

abbrev pub whole_picture : ℕ
whole_picture = 0

-- definition c, of channel c: colour c + 1; the opacity of the whole picture, whatever the mark (difference 27); or a channel of which nothing is said
unfoldable pub written_definition : List ℕ → ℕ → ℕ → Def
written_definition comps many c =
    table
    (c <? many ⇒ def c colour_channel (c + 1)
    ∣ alpha_of comps c ≠? 0 ⇒ def c opacity_channel whole_picture
    ∣ otherwise (def c unspecified unspecified))

-- the fields of a request
abbrev pub fields_of : Request → Fields
fields_of r =
    let meth = METH r.profile in
    let enumcs = EnumCS meth r.space in
    let many = colours enumcs in
    record {
      h = HEIGHT r;
      w = WIDTH r;
      numcomps = r.count;
      bpc = BPC r.components r.count;
      meth = meth;
      enumcs = enumcs;
      colours = many;
      definitions = N r.components r.count many;
    }

-- a sample has at most 38 bits
abbrev pub most_bits : ℕ
most_bits = 38

-- 32: a precision that is not 1 to 38, or a sign that is not 0 or 1
abbrev pub ill : List ℕ → ℕ → Test
ill comps c = precision comps c =? 0 or most_bits <? precision comps c or 1 <? sign_of comps c

-- numbers 31, 29 and 32, in that order, or the fields
unfoldable pub set_up : Request → Told Fields
set_up r =
    let wrong = lowest (ill r.components) r.count in
    table
    (r.count =? 0 or most_components <? r.count ⇒ refused 31 0
    ∣ length r.components <? numbers_each * r.count ⇒ refused 29 0
    ∣ wrong <? r.count ⇒ refused 32 wrong
    ∣ otherwise (accepted (fields_of r)))
