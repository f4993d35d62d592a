-- Writing, computed as a whole: document 01's grey picture, the boxes that follow from marks, colour spaces and profiles, and requests on both sides of each bound of the table.
use Rattle.std.specs.Prelude.{ℕ, zero, suc, ◌≡◌, refl, List, [], ◌∷◌, ◌++◌, length}
use Rattle.box_number.specs.Number.{bytes}
use Rattle.box_number.specs.Table.{table}
use Rattle.box_number.specs.Lowest.{lowest}
use Rattle.write_rules.specs.Request.{Request}
use Rattle.write_rules.specs.Box.{box_header, box, series}
use Rattle.write_rules.specs.Setup.{wrapping, BPCi, BPC, METH, EnumCS, colours, mark_count, N, written_definition, set_up}
use Rattle.write_rules.specs.Bpcc.{bpcc}
use Rattle.write_rules.specs.Colr.{specification}
use Rattle.write_rules.specs.Cdef.{cdef}
use Rattle.write_rules.specs.Writing.{Writing, written, declined, front, write_fields, write}

-- the first 12 numbers of a component, by its bits and its sign; the rest of them is not used by writing, and has numbers that would be noticed
abbrev pub twelve : ℕ → ℕ → List ℕ
twelve precision sign = 11 ∷ 12 ∷ 13 ∷ 14 ∷ 15 ∷ 16 ∷ precision ∷ 17 ∷ sign ∷ 18 ∷ 19 ∷ 20 ∷ []

-- a component, by its bits, its sign and its mark
abbrev pub comp : ℕ → ℕ → ℕ → List ℕ
comp precision sign mark = twelve precision sign ++ (mark ∷ [])

-- the request for a picture of 2 by 3, by its components, their count, its colour space, the length of its codestream and the room for its boxes
abbrev pub request_for : List ℕ → ℕ → ℕ → ℕ → ℕ → Request
request_for components count space codestream room =
    record { components = components; count = count; x0 = 0; y0 = 0; x1 = 2; y1 = 3; space = space; profile = []; codestream = codestream; room = room }

-- grey, 8 bits
abbrev pub grey : Request
grey = request_for (comp 8 0 0) 1 2 0 85

-- its 77 bytes: signature, file type, jp2h of ihdr and colr
abbrev pub grey_boxes : List ℕ
grey_boxes =
    0 ∷ 0 ∷ 0 ∷ 12 ∷ 0x6a ∷ 0x50 ∷ 0x20 ∷ 0x20 ∷ 0x0d ∷ 0x0a ∷ 0x87 ∷ 0x0a ∷
    0 ∷ 0 ∷ 0 ∷ 20 ∷ 0x66 ∷ 0x74 ∷ 0x79 ∷ 0x70 ∷ 0x6a ∷ 0x70 ∷ 0x32 ∷ 0x20 ∷ 0 ∷ 0 ∷ 0 ∷ 0 ∷ 0x6a ∷ 0x70 ∷ 0x32 ∷ 0x20 ∷
    0 ∷ 0 ∷ 0 ∷ 45 ∷ 0x6a ∷ 0x70 ∷ 0x32 ∷ 0x68 ∷
    0 ∷ 0 ∷ 0 ∷ 22 ∷ 0x69 ∷ 0x68 ∷ 0x64 ∷ 0x72 ∷ 0 ∷ 0 ∷ 0 ∷ 3 ∷ 0 ∷ 0 ∷ 0 ∷ 2 ∷ 0 ∷ 1 ∷ 7 ∷ 7 ∷ 0 ∷ 0 ∷
    0 ∷ 0 ∷ 0 ∷ 15 ∷ 0x63 ∷ 0x6f ∷ 0x6c ∷ 0x72 ∷ 1 ∷ 0 ∷ 0 ∷ 0 ∷ 0 ∷ 0 ∷ 17 ∷ []

-- and the 8 of the codestream's header
abbrev pub grey_stream : List ℕ
grey_stream = 0 ∷ 0 ∷ 0 ∷ 8 ∷ 0x6a ∷ 0x70 ∷ 0x32 ∷ 0x63 ∷ []

-- grey and its opacity, 8 bits and 1: bpc is 255, and there are bpcc and cdef; by the room for its boxes, of which 117 bytes are needed
abbrev pub opaque_in : ℕ → Request
opaque_in room = request_for (comp 8 0 0 ++ comp 1 0 1) 2 2 1000 room

abbrev pub opaque : Request
opaque = opaque_in 117

abbrev pub opaque_boxes : List ℕ
opaque_boxes =
    0 ∷ 0 ∷ 0 ∷ 12 ∷ 0x6a ∷ 0x50 ∷ 0x20 ∷ 0x20 ∷ 0x0d ∷ 0x0a ∷ 0x87 ∷ 0x0a ∷
    0 ∷ 0 ∷ 0 ∷ 20 ∷ 0x66 ∷ 0x74 ∷ 0x79 ∷ 0x70 ∷ 0x6a ∷ 0x70 ∷ 0x32 ∷ 0x20 ∷ 0 ∷ 0 ∷ 0 ∷ 0 ∷ 0x6a ∷ 0x70 ∷ 0x32 ∷ 0x20 ∷
    0 ∷ 0 ∷ 0 ∷ 77 ∷ 0x6a ∷ 0x70 ∷ 0x32 ∷ 0x68 ∷
    0 ∷ 0 ∷ 0 ∷ 22 ∷ 0x69 ∷ 0x68 ∷ 0x64 ∷ 0x72 ∷ 0 ∷ 0 ∷ 0 ∷ 3 ∷ 0 ∷ 0 ∷ 0 ∷ 2 ∷ 0 ∷ 2 ∷ 255 ∷ 7 ∷ 0 ∷ 0 ∷
    0 ∷ 0 ∷ 0 ∷ 10 ∷ 0x62 ∷ 0x70 ∷ 0x63 ∷ 0x63 ∷ 7 ∷ 0 ∷
    0 ∷ 0 ∷ 0 ∷ 15 ∷ 0x63 ∷ 0x6f ∷ 0x6c ∷ 0x72 ∷ 1 ∷ 0 ∷ 0 ∷ 0 ∷ 0 ∷ 0 ∷ 17 ∷
    0 ∷ 0 ∷ 0 ∷ 22 ∷ 0x63 ∷ 0x64 ∷ 0x65 ∷ 0x66 ∷ 0 ∷ 2 ∷ 0 ∷ 0 ∷ 0 ∷ 0 ∷ 0 ∷ 1 ∷ 0 ∷ 1 ∷ 0 ∷ 1 ∷ 0 ∷ 0 ∷
    0 ∷ 0 ∷ 0x03 ∷ 0xf0 ∷ 0x6a ∷ 0x70 ∷ 0x32 ∷ 0x63 ∷ []

-- signature and file type, which are the same in every file
abbrev pub start : List ℕ
start =
    0 ∷ 0 ∷ 0 ∷ 12 ∷ 0x6a ∷ 0x50 ∷ 0x20 ∷ 0x20 ∷ 0x0d ∷ 0x0a ∷ 0x87 ∷ 0x0a ∷
    0 ∷ 0 ∷ 0 ∷ 20 ∷ 0x66 ∷ 0x74 ∷ 0x79 ∷ 0x70 ∷ 0x6a ∷ 0x70 ∷ 0x32 ∷ 0x20 ∷ 0 ∷ 0 ∷ 0 ∷ 0 ∷ 0x6a ∷ 0x70 ∷ 0x32 ∷ 0x20 ∷ []

-- jp2h of the given length, and its ihdr: a picture of the given size, count and BPC
abbrev pub headed : ℕ → List ℕ → ℕ → ℕ → List ℕ
headed length size count bpc =
    (0 ∷ 0 ∷ 0 ∷ length ∷ 0x6a ∷ 0x70 ∷ 0x32 ∷ 0x68 ∷ 0 ∷ 0 ∷ 0 ∷ 22 ∷ 0x69 ∷ 0x68 ∷ 0x64 ∷ 0x72 ∷ []) ++ size ++ (0 ∷ count ∷ bpc ∷ 7 ∷ 0 ∷ 0 ∷ [])

-- of 2 by 3
abbrev pub of_bits : ℕ → ℕ → ℕ → List ℕ
of_bits length count bpc = headed length (0 ∷ 0 ∷ 0 ∷ 3 ∷ 0 ∷ 0 ∷ 0 ∷ 2 ∷ []) count bpc

-- and of components of 8 bits
abbrev pub eight : ℕ → ℕ → List ℕ
eight length count = of_bits length count 7

-- colr of an enumerated colour space
abbrev pub colr_space : ℕ → List ℕ
colr_space space = 0 ∷ 0 ∷ 0 ∷ 15 ∷ 0x63 ∷ 0x6f ∷ 0x6c ∷ 0x72 ∷ 1 ∷ 0 ∷ 0 ∷ 0 ∷ 0 ∷ 0 ∷ space ∷ []

-- colr of a profile of the bytes 1 and 2
abbrev pub colr_profile : List ℕ
colr_profile = 0 ∷ 0 ∷ 0 ∷ 13 ∷ 0x63 ∷ 0x6f ∷ 0x6c ∷ 0x72 ∷ 2 ∷ 0 ∷ 0 ∷ 1 ∷ 2 ∷ []

-- cdef of three colours, their opacity, and a channel of which nothing is said
abbrev pub five : List ℕ
five =
    0 ∷ 0 ∷ 0 ∷ 40 ∷ 0x63 ∷ 0x64 ∷ 0x65 ∷ 0x66 ∷ 0 ∷ 5 ∷
    0 ∷ 0 ∷ 0 ∷ 0 ∷ 0 ∷ 1 ∷
    0 ∷ 1 ∷ 0 ∷ 0 ∷ 0 ∷ 2 ∷
    0 ∷ 2 ∷ 0 ∷ 0 ∷ 0 ∷ 3 ∷
    0 ∷ 3 ∷ 255 ∷ 255 ∷ 255 ∷ 255 ∷
    0 ∷ 4 ∷ 0 ∷ 1 ∷ 0 ∷ 0 ∷ []

-- n components of 8 bits without a mark
abbrev pub plain : ℕ → List ℕ
plain zero = []
plain (suc n) = comp 8 0 0 ++ plain n

-- one grey component of 8 bits, by the corners of its picture, and its boxes, by height and width
abbrev pub cornered : ℕ → ℕ → ℕ → ℕ → Request
cornered x0 y0 x1 y1 = record { components = plain 1; count = 1; x0 = x0; y0 = y0; x1 = x1; y1 = y1; space = 2; profile = []; codestream = 0; room = 85 }

abbrev pub sized_boxes : List ℕ → List ℕ
sized_boxes size = start ++ headed 45 size 1 7 ++ colr_space 17 ++ grey_stream

-- the least and the most bits, without and with a sign
abbrev pub bounds : List ℕ
bounds = comp 1 0 0 ++ comp 1 1 0 ++ comp 38 0 0 ++ comp 38 1 0

-- their bpcc: bits less 1, and the sign as the top bit
abbrev pub bounds_bpcc : List ℕ
bounds_bpcc = 0 ∷ 0 ∷ 0 ∷ 12 ∷ 0x62 ∷ 0x70 ∷ 0x63 ∷ 0x63 ∷ 0 ∷ 128 ∷ 37 ∷ 165 ∷ []

-- a table of requests and the expected result of each
infixr 20 ◌gives◌∣◌
pub data Cases : Type 0 where
  end : Cases
  ◌gives◌∣◌ : Request → Writing → Cases → Cases

abbrev pub cases : Cases
cases =
    -- grey, 2 by 3, 8 bits: 77 bytes plus 8, codestream at 85
    grey gives written (grey_boxes ++ grey_stream) ∣
    -- grey and its opacity
    opaque gives written opaque_boxes ∣
    -- sRGB and sYCC, with three colours and an opacity behind a channel of which nothing is said
    request_for (plain 4 ++ comp 8 0 1) 5 1 0 200 gives written (start ++ eight 85 5 ++ colr_space 16 ++ five ++ grey_stream) ∣
    request_for (plain 4 ++ comp 8 0 2) 5 3 0 200 gives written (start ++ eight 85 5 ++ colr_space 18 ++ five ++ grey_stream) ∣
    -- no cdef where a colour is marked, where two components are, and where the colour space is another
    request_for (comp 8 0 1 ++ plain 3) 4 1 0 200 gives written (start ++ eight 45 4 ++ colr_space 16 ++ grey_stream) ∣
    request_for (plain 1 ++ comp 8 0 1 ++ comp 8 0 1) 3 2 0 200 gives written (start ++ eight 45 3 ++ colr_space 17 ++ grey_stream) ∣
    request_for (plain 3 ++ comp 8 0 1) 4 4 0 200 gives written (start ++ eight 45 4 ++ colr_space 0 ++ grey_stream) ∣
    -- a profile: no colour space, and no cdef
    record { components = plain 3 ++ comp 8 0 1; count = 4; x0 = 0; y0 = 0; x1 = 2; y1 = 3; space = 1; profile = 1 ∷ 2 ∷ []; codestream = 0; room = 200 } gives written (start ++ eight 43 4 ++ colr_profile ++ grey_stream) ∣
    -- corners that wrap
    cornered 4294967295 4294967294 1 1 gives written (grey_boxes ++ grey_stream) ∣
    -- signs that differ: no bpcc, which would take 10 bytes more
    request_for (comp 8 0 0 ++ comp 8 1 0) 2 2 0 84 gives declined 30 85 ∣
    -- a byte less of room
    request_for (comp 8 0 0) 1 2 0 84 gives declined 30 85 ∣
    -- no component, and 16385
    request_for [] 0 2 0 85 gives declined 31 0 ∣
    request_for [] 16385 2 0 85 gives declined 31 0 ∣
    -- a component that is not in the list
    request_for (comp 8 0 0) 2 2 0 85 gives declined 29 0 ∣
    -- precision 39, and sign 2
    request_for (comp 38 1 0 ++ comp 39 0 0) 2 2 0 85 gives declined 32 1 ∣
    request_for (comp 8 2 0 ++ comp 39 0 0) 2 2 0 85 gives declined 32 0 ∣
    -- corners of which two are the same
    cornered 2 0 2 3 gives declined 33 0 ∣
    cornered 0 3 2 3 gives declined 33 0 ∣
    -- a codestream that would not fit behind the longest boxes
    request_for (comp 8 0 0) 1 2 4261412864 85 gives declined 34 0 ∣
    -- the bounds from both sides. 31: 16384 components are not too many (their list is too short here), nor are six
    request_for [] 16384 2 0 85 gives declined 29 0 ∣
    request_for (plain 6) 6 2 0 85 gives written (start ++ eight 45 6 ++ colr_space 17 ++ grey_stream) ∣
    -- 29: 12 numbers are too few for a component, 13 are enough (above), and more are not looked at
    request_for (twelve 8 0) 1 2 0 85 gives declined 29 0 ∣
    request_for (plain 1 ++ twelve 8 0) 2 2 0 85 gives declined 29 0 ∣
    request_for (plain 1 ++ comp 39 2 1) 1 2 0 85 gives written (grey_boxes ++ grey_stream) ∣
    -- 32: 1 and 38 bits, without and with a sign, one at a time and all at once; 0 and 39 bits
    request_for (comp 1 0 0) 1 2 0 85 gives written (start ++ of_bits 45 1 0 ++ colr_space 17 ++ grey_stream) ∣
    request_for (comp 1 1 0) 1 2 0 85 gives written (start ++ of_bits 45 1 128 ++ colr_space 17 ++ grey_stream) ∣
    request_for (comp 38 0 0) 1 2 0 85 gives written (start ++ of_bits 45 1 37 ++ colr_space 17 ++ grey_stream) ∣
    request_for (comp 38 1 0) 1 2 0 85 gives written (start ++ of_bits 45 1 165 ++ colr_space 17 ++ grey_stream) ∣
    request_for bounds 4 0 0 97 gives written (start ++ of_bits 57 4 255 ++ bounds_bpcc ++ colr_space 0 ++ grey_stream) ∣
    request_for (comp 0 0 0) 1 2 0 85 gives declined 32 0 ∣
    request_for (comp 0 1 0) 1 2 0 85 gives declined 32 0 ∣
    request_for (comp 39 1 0) 1 2 0 85 gives declined 32 0 ∣
    request_for (comp 38 2 0) 1 2 0 85 gives declined 32 0 ∣
    -- 33: height and width 1, and the largest
    cornered 7 7 8 8 gives written (sized_boxes (0 ∷ 0 ∷ 0 ∷ 1 ∷ 0 ∷ 0 ∷ 0 ∷ 1 ∷ [])) ∣
    cornered 0 1 4294967295 0 gives written (sized_boxes (255 ∷ 255 ∷ 255 ∷ 255 ∷ 255 ∷ 255 ∷ 255 ∷ 255 ∷ [])) ∣
    -- 34: the longest codestream (for the longest profile see below)
    request_for (comp 8 0 0) 1 2 4261412863 85 gives written (grey_boxes ++ (0xfe ∷ 0 ∷ 0 ∷ 7 ∷ 0x6a ∷ 0x70 ∷ 0x32 ∷ 0x63 ∷ [])) ∣
    -- 30: a byte less than what bpcc, bpcc and cdef, and a profile need
    request_for bounds 4 0 0 96 gives declined 30 97 ∣
    opaque_in 116 gives declined 30 117 ∣
    record { components = plain 1; count = 1; x0 = 0; y0 = 0; x1 = 2; y1 = 3; space = 2; profile = 9 ∷ []; codestream = 0; room = 81 } gives declined 30 82 ∣
    -- of several numbers the first in the order 31, 29, 32, 33, 34, 30
    request_for [] 0 2 4261412864 0 gives declined 31 0 ∣
    record { components = comp 39 0 0; count = 2; x0 = 0; y0 = 0; x1 = 0; y1 = 0; space = 2; profile = []; codestream = 4261412864; room = 0 } gives declined 29 0 ∣
    record { components = comp 39 0 0; count = 1; x0 = 0; y0 = 0; x1 = 0; y1 = 0; space = 2; profile = []; codestream = 4261412864; room = 0 } gives declined 32 0 ∣
    record { components = comp 8 0 0; count = 1; x0 = 0; y0 = 0; x1 = 0; y1 = 0; space = 2; profile = []; codestream = 4261412864; room = 0 } gives declined 33 0 ∣
    request_for (comp 8 0 0) 1 2 4261412864 0 gives declined 34 0 ∣
    end

abbrev pub results : Cases → List Writing
results end = []
results (r gives w ∣ rest) = write r ∷ results rest

abbrev pub expected : Cases → List Writing
expected end = []
expected (r gives w ∣ rest) = w ∷ expected rest

pub writing_cases : results cases ≡ expected cases
unfolding table lowest bytes box_header box series wrapping BPCi BPC METH EnumCS colours mark_count N written_definition bpcc specification cdef front set_up write_fields write
writing_cases = refl

-- 77 and 85
pub lengths : ◌≡◌ {A = ℕ × ℕ} (length grey_boxes, length (grey_boxes ++ grey_stream)) (77, 85)
lengths = refl

-- the longest profile, by its length: its bytes would be too many to compute with
abbrev pub profiled_by : List ℕ → Request
profiled_by profile = record { components = plain 1; count = 1; x0 = 0; y0 = 0; x1 = 2; y1 = 3; space = 2; profile = profile; codestream = 0; room = 16777296 }

abbrev pub LongestProfile : Type 0
LongestProfile =
    (profile : List ℕ) →
    (length profile ≡ 16777215 → (bs : List ℕ) × (write (profiled_by profile) ≡ written bs) × (length bs ≡ 16777296))
    × (length profile ≡ 16777216 → write (profiled_by profile) ≡ declined 34 0)
