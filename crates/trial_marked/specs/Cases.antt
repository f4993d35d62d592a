-- Document 01, "Bench cases": the fourteen marked cases as one table, in document 01's order and words, computed whole.
use Rattle.std.specs.Prelude.{ℕ, zero, suc, ◌-◌, ◌*◌, ◌≡◌, refl, List, [], ◌∷◌, ◌++◌, ℤ, pos, negsuc, length, take, drop}
use Rattle.box_number.specs.Number.{number, part, bytes}
use Rattle.box_number.specs.Table.{table}
use Rattle.box_number.specs.Lowest.{lowest}
use Rattle.box_kind.specs.Kind.{kind_of, number_of}
use Rattle.box_kind.specs.declared.Jp2BoxType.TheVariants.{IHDR}
use Rattle.box_header.specs.Box.{length_of_header, box_length}
use Rattle.read_record.specs.declared.Jp2.{Jp2}
use Rattle.read_record.specs.State.{with_bit}
use Rattle.read_record.specs.Answer.{Result, accepted, refused}
use Rattle.read_record.specs.Component.{alpha, numbers_each}
use Rattle.read_signature.specs.Signature.{signature}
use Rattle.read_signature.specs.FileType.{file_type}
use Rattle.read_image.specs.Ihdr.{ihdr}
use Rattle.read_image.specs.Bpcc.{bpcc}
use Rattle.read_colour.specs.Colr.{lab, colr}
use Rattle.read_palette.specs.Pclr.{depth, entry_bytes, row_bytes, Cji, pclr}
use Rattle.read_channels.specs.Cmap.{cmap}
use Rattle.read_channels.specs.Cdef.{cdef}
use Rattle.read_channels.specs.Definitions.{def, definitions_to}
use Rattle.read_jp2h.specs.Split.{first_box, split}
use Rattle.read_jp2h.specs.Jp2h.{read_all, lacks_ihdr, jp2h}
use Rattle.read_rules.specs.File.{Walked, codestream, ended, file_refused, outer, run, walk, read}
use Rattle.read_rules.specs.Alike.{given}
use Rattle.read_rules.specs.Files.{two, four, box_of, extended, free, signature_box, file_type_box, stream_box, unknown_box, ihdr_box, grey_box, pclr_box, picture_file}
use Rattle.write_rules.specs.Request.{Request}
use Rattle.write_rules.specs.Box.{box_header, box, series}
use Rattle.write_rules.specs.Setup.{wrapping, BPCi, BPC, METH, EnumCS, colours, mark_count, N, written_definition, set_up}
use Rattle.write_rules.specs.Bpcc as bpcc_box
use Rattle.write_rules.specs.Colr.{specification}
use Rattle.write_rules.specs.Cdef as cdef_box
use Rattle.write_rules.specs.Writing.{Writing, written, front, write_fields, write}
use Rattle.write_rules.specs.Cases.{grey, grey_boxes, grey_stream}
use Rattle.picture_rules.specs.Edition.{marked_position, least_counted}
use Rattle.picture_rules.specs.Order.{exchange, define, run_definitions}
use Rattle.picture_rules.specs.Flat.{flat}
use Rattle.picture_rules.specs.Image.{Image, image, component, sample_at, size}
use Rattle.picture_rules.specs.Handed.{settings}
use Rattle.picture_rules.specs.Channels.{channels, component_of, type_of}
use Rattle.picture_rules.specs.Samples.{displayed, lookup, value_for, value_of, channel_samples, packed, start_of}
use Rattle.picture_rules.specs.Finish.{Finishing, finished, counted, expanded, picture, fitted, colour_checks, checks, finish}
use Rattle.picture_rules.specs.Boxes.{palette_box, mapping, mapping_box, definition_box, file_of}

infix 70 ◌mark◌
-- a plane of one sample, and its mark
pub data Plane : Type 0 where
  ◌mark◌ : ℤ → ℕ → Plane

infix 40 ◌with◌
-- what a part of a case is about
pub data Input : Type 0 where
  -- a file that is read
  reads : List ℕ → Input
  -- of a file that is read: how many components its record has, how many entries its palette has, and the picture that its boxes describe
  components_in : List ℕ → Input
  entries_in : List ℕ → Input
  picture_in : List ℕ → Input
  -- the content of the box that some bytes start with, and the length of some bytes
  content_of : List ℕ → Input
  length_of : List ℕ → Input
  -- an entry of a palette's column with this width byte
  entry_of : ℕ → Input
  -- a request that is written
  writes : Request → Input
  -- planes, each a component of one sample, and the boxes in jp2h behind ihdr: a file that is read, and its picture finished
  ◌with◌ : List Plane → List ℕ → Input

infix 40 ◌of◌plus◌of◌ ◌by◌of◌bits◌
-- and what comes of it
pub data Output : Type 0 where
  -- the codestream at an offset, "ended", or a number and its place or index
  stream_at : ℕ → Output
  over : Output
  refused_at : ℕ → ℕ → Output
  -- a count, some bytes
  exactly : ℕ → Output
  these : List ℕ → Output
  -- so many bytes before the codestream's header, and so many in it
  ◌of◌plus◌of◌ : ℕ → List ℕ → ℕ → List ℕ → Output
  -- a width, a height, how many bits a component has, and the colour space
  ◌by◌of◌bits◌ : ℕ → ℕ → ℕ → ℕ → Output
  -- the planes of a finished picture, in their order
  planes : List Plane → Output

infix 30 ◌gives◌
infixr 25 ◌⨾◌
-- a case: its parts, each with what is to come of it
pub data Case : Type 0 where
  ◌gives◌ : Input → Output → Case
  ◌⨾◌ : Case → Case → Case

infixr 20 ◌∣◌
pub data Cases : Type 0 where
  end : Cases
  ◌∣◌ : Case → Cases → Cases

-- the file that is written for a request: all bytes before the codestream, which is empty
abbrev pub file_written : Writing → List ℕ
file_written (written bs) = bs
file_written (Writing.declined number index) = []

abbrev pub grey_file : List ℕ
grey_file = file_written (write grey)

-- EnumCS of grey
abbrev pub greyscale : ℕ
greyscale = 17

-- jp2h's content begins at 40, the box behind an ihdr of 14 bytes at 62
abbrev pub first_child : ℕ
first_child = 40

abbrev pub second_child : ℕ
second_child = 62

-- a file of so many components
abbrev pub count_file : ℕ → List ℕ
count_file count = picture_file (ihdr_box count ++ grey_box)

-- a file with a palette of one column: so many entries of a byte each, or one entry of a width byte and the bytes that are there for it
abbrev pub entries_file : ℕ → List ℕ
entries_file entries = picture_file (ihdr_box 1 ++ pclr_box entries 0x07 entries)

abbrev pub width_file : ℕ → ℕ → List ℕ
width_file width there = picture_file (ihdr_box 1 ++ pclr_box 1 width there)

-- an ihdr's content without its last byte
abbrev pub thirteen : List ℕ
thirteen = four 3 ++ four 2 ++ two 1 ++ 7 ∷ 7 ∷ 0 ∷ []

-- two columns of two entries, and the mappings (0,1,0),(0,0,0)
abbrev pub palette_then_direct : List ℕ
palette_then_direct = palette_box 2 2 (10 ∷ 11 ∷ 20 ∷ 21 ∷ []) ++ mapping_box (mapping 0 1 0 ++ mapping 0 0 0)

-- one column of the entries 10, 20, 30, and its mapping
abbrev pub three_entries : List ℕ
three_entries = palette_box 3 1 (10 ∷ 20 ∷ 30 ∷ []) ++ mapping_box (mapping 0 1 0)

-- the samples of the planes A, B, C and D
abbrev pub A : ℤ
A = pos 1

abbrev pub B : ℤ
B = pos 2

abbrev pub C : ℤ
C = pos 3

abbrev pub D : ℤ
D = pos 4

-- a mark that no definition here gives
abbrev pub own : ℕ
own = 9

abbrev pub cases : Cases
cases =
    -- Empty file: ended.
    reads [] gives over ∣
    -- Grey, 2 by 3, 8 bits: 77 bytes plus 8, codestream at 85.
    writes grey gives 77 of grey_boxes plus 8 of grey_stream ⨾
    reads grey_file gives stream_at 85 ⨾
    components_in grey_file gives exactly 1 ⨾
    picture_in grey_file gives 2 by 3 of 8 bits greyscale ∣
    -- ihdr 13 bytes: 13.
    length_of thirteen gives exactly 13 ⨾
    reads (picture_file (box_of IHDR thirteen ++ grey_box)) gives refused_at 13 first_child ∣
    -- Count 16384 passes, 16385: 15.
    reads (count_file 16384) gives stream_at 85 ⨾
    components_in (count_file 16384) gives exactly 16384 ⨾
    reads (count_file 16385) gives refused_at 15 first_child ∣
    -- pclr 1024 entries pass, 1025: 19.
    reads (entries_file 1024) gives stream_at 1106 ⨾
    entries_in (entries_file 1024) gives exactly 1024 ⨾
    reads (entries_file 1025) gives refused_at 19 second_child ∣
    -- Width byte 0x07: 1 byte; 0x08: 2; 0x25: 4.
    entry_of 0x07 gives exactly 1 ⨾
    reads (width_file 0x07 1) gives stream_at 83 ⨾
    reads (width_file 0x07 0) gives refused_at 20 second_child ⨾
    entry_of 0x08 gives exactly 2 ⨾
    reads (width_file 0x08 2) gives stream_at 84 ⨾
    reads (width_file 0x08 1) gives refused_at 20 second_child ⨾
    entry_of 0x25 gives exactly 4 ⨾
    reads (width_file 0x25 4) gives stream_at 86 ⨾
    reads (width_file 0x25 3) gives refused_at 20 second_child ∣
    -- Child length 0: 10; extended 15: 11; 16: empty content.
    reads (picture_file (four 0 ++ four (number_of IHDR))) gives refused_at 10 first_child ⨾
    reads (picture_file (extended free 15)) gives refused_at 11 first_child ⨾
    content_of (extended free 16 ++ ihdr_box 1) gives these [] ⨾
    reads (picture_file (extended free 16 ++ ihdr_box 1)) gives stream_at 86 ⨾
    reads (picture_file (extended (number_of IHDR) 16)) gives refused_at 13 first_child ∣
    -- One component, mappings (0,1,0),(0,0,0): corrected; with two, kept.
    pos 1 mark 0 ∷ [] with palette_then_direct gives planes (pos 20 mark 0 ∷ pos 21 mark 0 ∷ []) ⨾
    pos 1 mark 0 ∷ pos 9 mark 0 ∷ [] with palette_then_direct gives planes (pos 20 mark 0 ∷ pos 1 mark 0 ∷ []) ∣
    -- Planes A,B,C, definitions (0,0,3),(1,0,2),(2,0,1): C,B,A.
    A mark own ∷ B mark own ∷ C mark own ∷ [] with definition_box (def 0 0 3 ∷ def 1 0 2 ∷ def 2 0 1 ∷ []) gives planes (C mark 0 ∷ B mark 0 ∷ A mark own ∷ []) ∣
    -- A,B,C,D with (2,0,1),(0,0,2),(1,1,0),(3,1,0): C,A,B,D.
    A mark own ∷ B mark own ∷ C mark own ∷ D mark own ∷ [] with definition_box (def 2 0 1 ∷ def 0 0 2 ∷ def 1 1 0 ∷ def 3 1 0 ∷ []) gives planes (C mark own ∷ A mark 0 ∷ B mark 1 ∷ D mark 1 ∷ []) ∣
    -- (0,1,0),(1,0,1): B,A and A's mark 0; swapped, mark 1.
    A mark own ∷ B mark own ∷ [] with definition_box (def 0 1 0 ∷ def 1 0 1 ∷ []) gives planes (B mark own ∷ A mark 0 ∷ []) ⨾
    A mark own ∷ B mark own ∷ [] with definition_box (def 1 0 1 ∷ def 0 1 0 ∷ []) gives planes (B mark own ∷ A mark 1 ∷ []) ∣
    -- Entries 10,20,30: index -1 gives 10, 3 gives 30.
    negsuc 0 mark 0 ∷ [] with three_entries gives planes (pos 10 mark 0 ∷ []) ⨾
    pos 3 mark 0 ∷ [] with three_entries gives planes (pos 30 mark 0 ∷ []) ∣
    -- Signature, ftyp (20 bytes), empty unknown box, codestream: 48.
    length_of file_type_box gives exactly 20 ⨾
    content_of unknown_box gives these [] ⨾
    reads (signature_box ++ file_type_box ++ unknown_box ++ stream_box) gives stream_at 48 ∣
    -- Two components, only (1,0,2): passes; only (0,0,1): 26.
    A mark 0 ∷ B mark 0 ∷ [] with definition_box (def 1 0 2 ∷ []) gives planes (A mark 0 ∷ B mark 0 ∷ []) ⨾
    A mark 0 ∷ B mark 0 ∷ [] with definition_box (def 0 0 1 ∷ []) gives refused_at 26 1 ∣
    end

-- the answer of reading
abbrev pub answer_of : Walked → Output
answer_of (codestream offset m) = stream_at offset
answer_of (ended m) = over
answer_of (file_refused number place) = refused_at number place

-- what the record of a file has
abbrev pub of_record : (Jp2 → Output) → Result → Output
of_record shown (accepted m) = shown m
of_record shown (refused number place) = refused_at number place

-- the bytes of the codestream's header, which is written last
abbrev pub stream_header_length : ℕ
stream_header_length = 8

-- what is written, taken apart before the codestream's header
abbrev pub apart : Writing → Output
apart (written bs) = let n = length bs - stream_header_length in n of take n bs plus length (drop n bs) of drop n bs
apart (Writing.declined number index) = refused_at number index

-- planes as components of 1 by 1 and 8 bits, whose samples start at an index
abbrev pub records_from : ℕ → List Plane → List ℕ
records_from at [] = []
records_from at (s mark m ∷ ps) = 1 ∷ 1 ∷ 1 ∷ 1 ∷ 0 ∷ 0 ∷ 8 ∷ 0 ∷ 0 ∷ 0 ∷ 0 ∷ at ∷ m ∷ records_from (suc at) ps

abbrev pub samples_of : List Plane → List ℤ
samples_of [] = []
samples_of (s mark m ∷ ps) = s ∷ samples_of ps

abbrev pub image_from : List Plane → Image
image_from ps = image (records_from 0 ps) (length ps) (samples_of ps)

-- the first n planes of a finished picture
abbrev pub first_planes : Image → ℕ → List Plane
first_planes i zero = []
first_planes i (suc n) = first_planes i n ++ (sample_at i n 0 0 mark component i n alpha ∷ [])

abbrev pub shown_planes : Finishing → Output
shown_planes (finished i) = planes (first_planes i i.count)
shown_planes (Finishing.declined number index) = refused_at number index

-- the most planes of a case; the destinations have room for as many
abbrev pub most_planes : ℕ
most_planes = 4

-- finished with the record from reading
abbrev pub finishes : List ℕ → Image → Result → Output
finishes f i (accepted m) = shown_planes (finish (record { file = f; image = i; settings = settings 0 0; records = numbers_each * most_planes; samples = most_planes }) m)
finishes f i (refused number place) = refused_at number place

abbrev pub output : Input → Output
output (reads f) = answer_of (read f)
output (components_in f) = of_record (λ m. exactly m.image.numcomps) (given (read f))
output (entries_in f) = of_record (λ m. exactly m.lists.pclr.entries) (given (read f))
output (picture_in f) = of_record (λ m. m.image.w by m.image.h of depth m.image.bpc bits m.colour.enumcs) (given (read f))
output (content_of bs) = these (first_box 0 bs).content
output (length_of bs) = exactly (length bs)
output (entry_of width) = exactly (entry_bytes width)
output (writes r) = apart (write r)
output (ps with boxes) = let f = file_of (length ps) boxes ++ stream_box in finishes f (image_from ps) (given (read f))

-- what comes of each part of a case, and what is to come
abbrev pub outputs : Case → List Output
outputs (i gives o) = output i ∷ []
outputs (c ⨾ d) = outputs c ++ outputs d

abbrev pub wanted : Case → List Output
wanted (i gives o) = o ∷ []
wanted (c ⨾ d) = wanted c ++ wanted d

abbrev pub results : Cases → List (List Output)
results end = []
results (c ∣ rest) = outputs c ∷ results rest

abbrev pub expected : Cases → List (List Output)
expected end = []
expected (c ∣ rest) = wanted c ∷ expected rest

pub marked-cases : results cases ≡ expected cases
unfolding table number part bytes kind_of length_of_header box_length with_bit signature file_type ihdr bpcc lab colr entry_bytes row_bytes Cji pclr cmap cdef split read_all lacks_ihdr jp2h outer run walk definitions_to box_header box series wrapping BPCi BPC METH EnumCS colours mark_count N written_definition bpcc_box.bpcc specification cdef_box.cdef front set_up write_fields write marked_position least_counted exchange define run_definitions size lowest channels component_of type_of displayed lookup value_for value_of channel_samples packed start_of counted expanded flat picture fitted colour_checks checks finish
marked-cases = refl

-- and they are fourteen
pub fourteen : length (results cases) ≡ 14
fourteen = refl
