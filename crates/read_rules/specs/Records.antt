-- Small files and the whole reading of each: the answer, and every number of the record. Computed from the definitions. Bytes, kinds and expected numbers are written out, so that no row takes one from a definition.
-- A file of `file` has its jp2h at 32, the content of jp2h at 40, the child after the ihdr at 62 and that child's content at 70.
use Rattle.std.specs.Prelude.{ℕ, ◌≡◌, refl, List, [], ◌∷◌, ◌++◌, replicate}
use Rattle.box_number.specs.Number.{number, part}
use Rattle.box_number.specs.Table.{table}
use Rattle.box_kind.specs.Kind.{kind_of}
use Rattle.box_kind.specs.declared.Jp2BoxType.TheVariants.{Unknown}
use Rattle.box_header.specs.Box.{length_of_header, box_length}
use Rattle.read_record.specs.declared.Image.{Image}
use Rattle.read_record.specs.declared.Lab.{Lab}
use Rattle.read_record.specs.declared.Colour.{Colour}
use Rattle.read_record.specs.declared.FileType.{FileType}
use Rattle.read_record.specs.declared.Span.{Span}
use Rattle.read_record.specs.declared.Palette.{Palette}
use Rattle.read_record.specs.declared.Lists.{Lists}
use Rattle.read_record.specs.declared.Status.{Status}
use Rattle.read_record.specs.declared.Jp2.{Jp2}
use Rattle.read_record.specs.Record.{jp2, span, palette, lists, status, blank}
use Rattle.read_record.specs.State.{with_bit}
use Rattle.read_record.specs.Answer.{accepted, refused}
use Rattle.read_signature.specs.Signature.{signature}
use Rattle.read_signature.specs.FileType.{file_type}
use Rattle.read_image.specs.Ihdr.{ihdr}
use Rattle.read_image.specs.Bpcc.{bpcc}
use Rattle.read_colour.specs.Colr.{lab, colr}
use Rattle.read_palette.specs.Pclr.{entry_bytes, row_bytes, pclr}
use Rattle.read_channels.specs.Cmap.{cmap}
use Rattle.read_channels.specs.Cdef.{cdef}
use Rattle.read_jp2h.specs.Split.{split}
use Rattle.read_jp2h.specs.Jp2h.{read_all, lacks_ihdr, jp2h, jp2h_alone}
use Rattle.read_jp2h.specs.HeaderBox.{header_box}
use Rattle.read_rules.specs.File.{Walked, codestream, ended, file_refused, outer, run, walk, after}
use Rattle.read_rules.specs.Files.{two, four, box_by_number}

-- boxes by the number of their kind
abbrev pub jp_box : List ℕ → List ℕ
jp_box content = box_by_number 0x6a502020 content

abbrev pub ftyp_box : List ℕ → List ℕ
ftyp_box content = box_by_number 0x66747970 content

abbrev pub jp2h_box : List ℕ → List ℕ
jp2h_box content = box_by_number 0x6a703268 content

abbrev pub ihdr_box : List ℕ → List ℕ
ihdr_box content = box_by_number 0x69686472 content

abbrev pub bpcc_box : List ℕ → List ℕ
bpcc_box content = box_by_number 0x62706363 content

abbrev pub colr_box : List ℕ → List ℕ
colr_box content = box_by_number 0x636f6c72 content

abbrev pub pclr_box : List ℕ → List ℕ
pclr_box content = box_by_number 0x70636c72 content

abbrev pub cmap_box : List ℕ → List ℕ
cmap_box content = box_by_number 0x636d6170 content

abbrev pub cdef_box : List ℕ → List ℕ
cdef_box content = box_by_number 0x63646566 content

abbrev pub jp2c_box : List ℕ
jp2c_box = box_by_number 0x6a703263 []

abbrev pub free_box : List ℕ
free_box = box_by_number 0x66726565 []

-- empty boxes of all kinds that no reader reads: jpip, url, dtbl, jp2, res, jp2i, xml, uuid by the crate's number and by the standard's, uinf, free
abbrev pub other_boxes : List ℕ
other_boxes =
    box_by_number 0x6a706970 [] ++ box_by_number 0x75726c20 [] ++ box_by_number 0x6474626c [] ++ box_by_number 0x6a703220 [] ++ box_by_number 0x72657320 []
    ++ box_by_number 0x6a703269 [] ++ box_by_number 0x786d6c20 [] ++ box_by_number 0x75756994 [] ++ box_by_number 0x75756964 [] ++ box_by_number 0x75696e66 [] ++ free_box

-- a header with LBox 1 and both words of XLBox
abbrev pub extended_header : ℕ → ℕ → ℕ → List ℕ
extended_header type high low = four 1 ++ four type ++ four high ++ four low

abbrev pub signed : List ℕ
signed = jp_box (0x0d ∷ 0x0a ∷ 0x87 ∷ 0x0a ∷ [])

-- signature and file type, 32 bytes
abbrev pub start : List ℕ
start = signed ++ ftyp_box (four 0x6a703220 ++ four 0 ++ four 0x6a703220)

-- an ihdr by height, width and count, and one of 2 by 3 with one component
abbrev pub sized : ℕ → ℕ → ℕ → List ℕ
sized height width count = ihdr_box (four height ++ four width ++ two count ++ 7 ∷ 7 ∷ 0 ∷ 0 ∷ [])

abbrev pub one : List ℕ
one = sized 3 2 1

abbrev pub grey_box : List ℕ
grey_box = colr_box (1 ∷ 0 ∷ 0 ∷ 0 ∷ 0 ∷ 0 ∷ 17 ∷ [])

-- the boxes inside jp2h, and a codestream
abbrev pub file : List ℕ → List ℕ
file boxes = start ++ jp2h_box boxes ++ jp2c_box

-- the parts of a record. Of lists there are compatibility list, depths, profile, palette, mappings and definitions: `span` has place and count, `palette` place, entries and columns. `status` has state, image state, has_jp2h and has_ihdr
abbrev pub image : ℕ → ℕ → ℕ → ℕ → ℕ → ℕ → ℕ → Image
image h w numcomps bpc c unkc ipr = record { h = h; w = w; numcomps = numcomps; bpc = bpc; c = c; unkc = unkc; ipr = ipr }

abbrev pub lab_of : ℕ → ℕ → ℕ → ℕ → ℕ → ℕ → ℕ → ℕ → ℕ → ℕ → Lab
lab_of a b c d e f g h i count = record { numbers = a ∷ b ∷ c ∷ d ∷ e ∷ f ∷ g ∷ h ∷ i ∷ []; count = count }

abbrev pub colour : ℕ → ℕ → ℕ → ℕ → Lab → ℕ → Colour
colour meth precedence approx enumcs l held = record { meth = meth; precedence = precedence; approx = approx; enumcs = enumcs; lab = l; held = held }

abbrev pub typed : ℕ → ℕ → FileType
typed brand minversion = record { brand = brand; minversion = minversion }

-- those of the record before any box
abbrev pub no_image : Image
no_image = image 0 0 0 0 0 0 0

abbrev pub no_lab : Lab
no_lab = lab_of 0 0 0 0 0 0 0 0 0 0

abbrev pub no_colour : Colour
no_colour = colour 0 0 0 0 no_lab 0

abbrev pub none : Span
none = span 0 0

abbrev pub no_palette : Palette
no_palette = palette 0 0 0

abbrev pub no_lists : Lists
no_lists = lists none none none no_palette none none

abbrev pub no_record : Jp2
no_record = jp2 no_image no_colour (typed 0 0) no_lists (status 0 0 0 0)

-- those that `start`, `one` and `grey_box` give
abbrev pub jp2_type : FileType
jp2_type = typed 0x6a703220 0

abbrev pub small : Image
small = image 3 2 1 7 7 0 0

abbrev pub grey : Colour
grey = colour 1 0 0 17 no_lab 1

-- after `start`: depths, profile, palette, mappings, definitions
abbrev pub listed : Span → Span → Palette → Span → Span → Lists
listed bpcc icc pclr cmap cdef = lists (span 28 1) bpcc icc pclr cmap cdef

abbrev pub unlisted : Lists
unlisted = listed none none no_palette none none

-- the status at the codestream
abbrev pub reached : Status
reached = status 15 0 1 1

-- a record with everything known
abbrev pub large : Image
large = image 31 32 3 34 35 36 37

abbrev pub known : Image → FileType → Lists → Status → Jp2
known i t l s = jp2 i (colour 2 41 42 43 (lab_of 1 2 3 4 5 6 7 8 9 9) 1) t l s

abbrev pub full_with : Status → Jp2
full_with s = known large (typed 51 52) (lists (span 61 62) (span 63 64) (span 65 66) (palette 67 68 69) (span 70 71) (span 72 73)) s

-- a refusal, beside the record that a caller then has
abbrev pub refuses : ℕ → ℕ → Jp2 → Walked
refuses number place m = file_refused number place

-- a table of files, the record before each, and the answer with the record after it
infixr 20 ◌from◌gives◌with◌∣◌
pub data Cases : Type 0 where
  end : Cases
  ◌from◌gives◌with◌∣◌ : List ℕ → Jp2 → (Jp2 → Walked) → Jp2 → Cases → Cases

-- files that are read
abbrev pub read_files : Cases
read_files =
    -- nothing is read, and nothing changes
    [] from no_record gives ended with no_record ∣
    [] from full_with (status 1 2 3 4) gives ended with full_with (status 1 2 3 4) ∣
    -- signature; file type, with two entries and with none
    signed from no_record gives ended with jp2 no_image no_colour (typed 0 0) no_lists (status 1 0 0 0) ∣
    signed ++ ftyp_box (four 0x01020304 ++ four 0x05060708 ++ four 9 ++ four 10) from no_record gives ended with jp2 no_image no_colour (typed 0x01020304 0x05060708) (lists (span 28 2) none none no_palette none none) (status 3 0 0 0) ∣
    signed ++ ftyp_box (four 1 ++ four 2) from no_record gives ended with jp2 no_image no_colour (typed 1 2) (lists (span 28 0) none none no_palette none none) (status 3 0 0 0) ∣
    -- ihdr: its seven fields
    start ++ jp2h_box (ihdr_box (four 0x01020304 ++ four 0x05060708 ++ two 0x0203 ++ 9 ∷ 10 ∷ 11 ∷ 12 ∷ [])) from no_record gives ended with jp2 (image 0x01020304 0x05060708 0x0203 9 10 11 12) no_colour jp2_type unlisted (status 7 0 1 1) ∣
    -- grey
    file (one ++ grey_box) from no_record gives codestream 85 with jp2 small grey jp2_type unlisted reached ∣
    -- a further ihdr is skipped, whatever its length and its fields; a further jp2h has one of its own
    file (one ++ ihdr_box [] ++ sized 9 9 9) from no_record gives codestream 100 with jp2 small no_colour jp2_type unlisted reached ∣
    start ++ jp2h_box one ++ jp2h_box (ihdr_box []) ++ jp2c_box from no_record gives codestream 86 with jp2 small no_colour jp2_type unlisted reached ∣
    -- a further bpcc takes the place of the one before; an empty one before ihdr
    file (one ++ bpcc_box (7 ∷ []) ++ bpcc_box (15 ∷ [])) from no_record gives codestream 88 with jp2 small no_colour jp2_type (listed (span 79 1) none no_palette none none) reached ∣
    file (bpcc_box [] ++ one) from no_record gives codestream 78 with jp2 small no_colour jp2_type (listed (span 48 0) none no_palette none none) reached ∣
    -- colr is held: METH 1, with bytes after EnumCS; CIELab with 28 bytes, none, and any other count; METH 2, with an empty profile too
    file (one ++ colr_box (1 ∷ 2 ∷ 3 ∷ 1 ∷ 2 ∷ 3 ∷ 4 ∷ 5 ∷ [])) from no_record gives codestream 86 with jp2 small (colour 1 2 3 0x01020304 no_lab 1) jp2_type unlisted reached ∣
    file (one ++ colr_box (1 ∷ 2 ∷ 3 ∷ four 14 ++ four 21 ++ four 22 ++ four 23 ++ four 24 ++ four 25 ++ four 26 ++ four 27)) from no_record gives codestream 113 with
    jp2 small (colour 1 2 3 14 (lab_of 14 0 21 22 23 24 25 26 27 9) 1) jp2_type unlisted reached ∣
    file (one ++ colr_box (1 ∷ 2 ∷ 3 ∷ four 14)) from no_record gives codestream 85 with jp2 small (colour 1 2 3 14 (lab_of 14 0 0 0 0 0 0 0x443530 0 8) 1) jp2_type unlisted reached ∣
    file (one ++ colr_box (1 ∷ 2 ∷ 3 ∷ four 14 ++ replicate 27 1)) from no_record gives codestream 112 with jp2 small (colour 1 2 3 14 (lab_of 14 0x44454600 0 0 0 0 0 0 0x443530 9) 1) jp2_type unlisted reached ∣
    file (one ++ colr_box (2 ∷ 4 ∷ 5 ∷ 6 ∷ 7 ∷ 8 ∷ []) ++ grey_box) from no_record gives codestream 99 with jp2 small (colour 2 4 5 0 no_lab 1) jp2_type (listed none (span 73 3) no_palette none none) reached ∣
    file (one ++ colr_box (2 ∷ 4 ∷ 5 ∷ [])) from no_record gives codestream 81 with jp2 small (colour 2 4 5 0 no_lab 1) jp2_type (listed none (span 73 0) no_palette none none) reached ∣
    -- then later ones are skipped, METH 1 without EnumCS too
    file (one ++ grey_box ++ colr_box (2 ∷ 4 ∷ 5 ∷ 6 ∷ []) ++ colr_box (1 ∷ 2 ∷ 3 ∷ four 14) ++ colr_box (1 ∷ 2 ∷ 3 ∷ [])) from no_record gives codestream 123 with jp2 small grey jp2_type unlisted reached ∣
    -- METH 0 or above 2 leaves three fields and holds nothing, so that the next colr is read
    file (one ++ colr_box (0 ∷ 1 ∷ 2 ∷ [])) from no_record gives codestream 81 with jp2 small (colour 0 1 2 0 no_lab 0) jp2_type unlisted reached ∣
    file (one ++ colr_box (3 ∷ 1 ∷ 2 ∷ four 14)) from no_record gives codestream 85 with jp2 small (colour 3 1 2 0 no_lab 0) jp2_type unlisted reached ∣
    file (one ++ colr_box (255 ∷ 1 ∷ 2 ∷ [])) from no_record gives codestream 81 with jp2 small (colour 255 1 2 0 no_lab 0) jp2_type unlisted reached ∣
    file (one ++ colr_box (3 ∷ 1 ∷ 2 ∷ []) ++ grey_box) from no_record gives codestream 96 with jp2 small grey jp2_type unlisted reached ∣
    -- each box changes its own part, and no other
    signed from full_with (status 0 5 6 7) gives ended with full_with (status 1 5 6 7) ∣
    ftyp_box (four 1 ++ four 2 ++ four 3) from full_with (status 1 5 6 7) gives ended with
    known large (typed 1 2) (lists (span 16 1) (span 63 64) (span 65 66) (palette 67 68 69) (span 70 71) (span 72 73)) (status 3 5 6 7) ∣
    one from known no_image (typed 51 52) no_lists (status 4 5 6 7) gives ended with known small (typed 51 52) no_lists (status 4 5 6 1) ∣
    bpcc_box (1 ∷ 2 ∷ 3 ∷ []) from full_with (status 4 5 6 7) gives ended with
    known large (typed 51 52) (lists (span 61 62) (span 8 3) (span 65 66) (palette 67 68 69) (span 70 71) (span 72 73)) (status 4 5 6 7) ∣
    pclr_box (two 1 ++ 2 ∷ 7 ∷ 7 ∷ 1 ∷ 1 ∷ []) from known large (typed 51 52) (lists (span 61 62) (span 63 64) (span 65 66) no_palette (span 70 71) (span 72 73)) (status 4 5 6 7) gives ended with
    known large (typed 51 52) (lists (span 61 62) (span 63 64) (span 65 66) (palette 11 1 2) (span 70 71) (span 72 73)) (status 4 5 6 7) ∣
    cmap_box (replicate 8 0) from known large (typed 51 52) (lists (span 61 62) (span 63 64) (span 65 66) (palette 67 68 2) none (span 72 73)) (status 4 5 6 7) gives ended with
    known large (typed 51 52) (lists (span 61 62) (span 63 64) (span 65 66) (palette 67 68 2) (span 8 2) (span 72 73)) (status 4 5 6 7) ∣
    cdef_box (two 1 ++ replicate 6 0) from known large (typed 51 52) (lists (span 61 62) (span 63 64) (span 65 66) (palette 67 68 69) (span 70 71) none) (status 4 5 6 7) gives ended with
    known large (typed 51 52) (lists (span 61 62) (span 63 64) (span 65 66) (palette 67 68 69) (span 70 71) (span 10 1)) (status 4 5 6 7) ∣
    -- palette (two rows of 1, 2 and 1 bytes), mappings and definitions, the last two with a byte to spare; inside jp2h and behind it
    file (one ++ pclr_box (two 2 ++ 3 ∷ 7 ∷ 15 ∷ 0x87 ∷ replicate 8 1) ++ cmap_box (replicate 13 0) ++ cdef_box (two 2 ++ replicate 13 0)) from no_record gives codestream 136 with
    jp2 small no_colour jp2_type (listed none none (palette 73 2 3) (span 92 3) (span 115 2)) reached ∣
    start ++ jp2h_box one ++ pclr_box (two 2 ++ 3 ∷ 7 ∷ 15 ∷ 0x87 ∷ replicate 8 1) ++ cmap_box (replicate 12 0) ++ cdef_box (two 2 ++ replicate 12 0) ++ bpcc_box (7 ∷ []) ++ grey_box ++ jp2c_box from no_record gives codestream 158 with
    jp2 small grey jp2_type (listed (span 134 1) none (palette 73 2 3) (span 92 3) (span 114 2)) reached ∣
    -- a child of another kind sets the unknown bits of the image state, and each jp2h clears them first; it does not touch the other bits and fields
    file (other_boxes ++ jp_box [] ++ ftyp_box [] ++ jp2h_box [] ++ jp2c_box ++ one) from no_record gives codestream 190 with jp2 small no_colour jp2_type unlisted (status 15 2147483647 1 1) ∣
    start ++ jp2h_box (one ++ free_box) ++ jp2h_box (ihdr_box []) ++ jp2c_box from no_record gives codestream 94 with jp2 small no_colour jp2_type unlisted reached ∣
    jp2h_box (ihdr_box []) from full_with (status 2 4294967295 5 6) gives ended with full_with (status 6 0 1 6) ∣
    -- a box of the file that is not read sets the unknown bits of the state, and keeps bit 31
    start ++ other_boxes ++ jp2c_box from no_record gives codestream 128 with jp2 no_image no_colour jp2_type unlisted (status 2147483647 0 0 0) ∣
    free_box from full_with (status 2147483651 5 6 7) gives ended with full_with (status 4294967295 5 6 7) ∣
    -- and so does a box of jp2h outside it before the header bit: it is not read, and asks for no signature
    ihdr_box [] ++ jp2c_box from no_record gives codestream 16 with jp2 no_image no_colour (typed 0 0) no_lists (status 2147483647 0 0 0) ∣
    bpcc_box [] from no_record gives ended with jp2 no_image no_colour (typed 0 0) no_lists (status 2147483647 0 0 0) ∣
    grey_box ++ jp2c_box from no_record gives codestream 23 with jp2 no_image no_colour (typed 0 0) no_lists (status 2147483647 0 0 0) ∣
    pclr_box [] from no_record gives ended with jp2 no_image no_colour (typed 0 0) no_lists (status 2147483647 0 0 0) ∣
    cmap_box [] from no_record gives ended with jp2 no_image no_colour (typed 0 0) no_lists (status 2147483647 0 0 0) ∣
    cdef_box [] from no_record gives ended with jp2 no_image no_colour (typed 0 0) no_lists (status 2147483647 0 0 0) ∣
    colr_box [] from full_with (status 2147483651 5 6 7) gives ended with full_with (status 4294967295 5 6 7) ∣
    -- after it the next one is read: hasihdr without hasjp2h
    start ++ free_box ++ one ++ jp2c_box from no_record gives codestream 70 with jp2 small no_colour jp2_type unlisted (status 2147483647 0 0 1) ∣
    -- the codestream bit, where it is set already too; the length is not looked at
    jp2c_box from full_with (status 4 5 6 7) gives codestream 8 with full_with (status 12 5 6 7) ∣
    jp2c_box from full_with (status 2147483660 5 6 7) gives codestream 8 with full_with (status 2147483660 5 6 7) ∣
    four 0 ++ four 0x6a703263 from full_with (status 4 5 6 7) gives codestream 8 with full_with (status 12 5 6 7) ∣
    four 3 ++ four 0x6a703263 from full_with (status 4 5 6 7) gives codestream 8 with full_with (status 12 5 6 7) ∣
    four 4294967295 ++ four 0x6a703263 from full_with (status 4 5 6 7) gives codestream 8 with full_with (status 12 5 6 7) ∣
    extended_header 0x6a703263 0 0 from full_with (status 4 5 6 7) gives codestream 16 with full_with (status 12 5 6 7) ∣
    extended_header 0x6a703263 0 4294967295 from full_with (status 4 5 6 7) gives codestream 16 with full_with (status 12 5 6 7) ∣
    -- a high word, and a header that is cut, end the walk before the box is looked at
    extended_header 0x6a703263 1 0 from full_with (status 4 5 6 7) gives ended with full_with (status 4 5 6 7) ∣
    extended_header 0x66726565 0 4294967295 from full_with (status 3 5 6 7) gives ended with full_with (status 2147483647 5 6 7) ∣
    extended_header 0x66726565 1 0 from full_with (status 3 5 6 7) gives ended with full_with (status 3 5 6 7) ∣
    0 ∷ 0 ∷ 0 ∷ 8 ∷ 0x66 ∷ 0x72 ∷ 0x65 ∷ [] from full_with (status 3 5 6 7) gives ended with full_with (status 3 5 6 7) ∣
    four 1 ++ four 0x66726565 ++ replicate 7 0 from full_with (status 3 5 6 7) gives ended with full_with (status 3 5 6 7) ∣
    -- a box to the end of the file, and one past it
    four 0 ++ four 0x66726565 ++ 1 ∷ [] from full_with (status 3 5 6 7) gives ended with full_with (status 2147483647 5 6 7) ∣
    start ++ four 0 ++ four 0x6a703268 ++ one from no_record gives ended with jp2 small no_colour jp2_type unlisted (status 7 0 1 1) ∣
    four 9 ++ four 0x66726565 from full_with (status 3 5 6 7) gives ended with full_with (status 2147483647 5 6 7) ∣
    end

-- files that are refused, each number of document 01 for reading but 1; the record stays
abbrev pub refused_files : Cases
refused_files =
    -- 2: the codestream before the header bit
    start ++ jp2c_box from no_record gives refuses 2 32 with no_record ∣
    jp2c_box from full_with (status 2147483643 5 6 7) gives refuses 2 0 with full_with (status 2147483643 5 6 7) ∣
    -- 3: a length below the header's own
    start ++ four 7 ++ four 0x66726565 from no_record gives refuses 3 32 with no_record ∣
    start ++ four 2 ++ four 0x6a703268 from no_record gives refuses 3 32 with no_record ∣
    start ++ extended_header 0x66726565 0 15 from no_record gives refuses 3 32 with no_record ∣
    start ++ extended_header 0x66726565 0 0 from no_record gives refuses 3 32 with no_record ∣
    -- 4: a box that is read reaches past the file, whatever the state
    four 13 ++ four 0x6a502020 ++ four 0x0d0a870a from no_record gives refuses 4 0 with no_record ∣
    signed ++ four 17 ++ four 0x66747970 ++ four 1 ++ four 2 from no_record gives refuses 4 12 with no_record ∣
    start ++ four 31 ++ four 0x6a703268 ++ one from no_record gives refuses 4 32 with no_record ∣
    four 9 ++ four 0x6a703268 from no_record gives refuses 4 0 with no_record ∣
    four 9 ++ four 0x69686472 from no_record gives refuses 4 0 with no_record ∣
    four 9 ++ four 0x62706363 from no_record gives refuses 4 0 with no_record ∣
    four 9 ++ four 0x636f6c72 from no_record gives refuses 4 0 with no_record ∣
    four 9 ++ four 0x70636c72 from no_record gives refuses 4 0 with no_record ∣
    four 9 ++ four 0x636d6170 from no_record gives refuses 4 0 with no_record ∣
    four 9 ++ four 0x63646566 from no_record gives refuses 4 0 with no_record ∣
    -- 5, 6: any other box before signature and file type, past the end too
    free_box from no_record gives refuses 5 0 with no_record ∣
    four 9 ++ four 0x66726565 from no_record gives refuses 5 0 with no_record ∣
    free_box from full_with (status 2147483646 5 6 7) gives refuses 5 0 with full_with (status 2147483646 5 6 7) ∣
    signed ++ free_box from no_record gives refuses 6 12 with no_record ∣
    free_box from full_with (status 2147483645 5 6 7) gives refuses 6 0 with full_with (status 2147483645 5 6 7) ∣
    -- 7: jP where the state is not 0, not of 4 bytes, or of other bytes
    signed ++ signed from no_record gives refuses 7 12 with no_record ∣
    jp_box (0x0d ∷ 0x0a ∷ 0x87 ∷ []) from no_record gives refuses 7 0 with no_record ∣
    jp_box (0x0d ∷ 0x0a ∷ 0x87 ∷ 0x0a ∷ 0 ∷ []) from no_record gives refuses 7 0 with no_record ∣
    jp_box (0x0d ∷ 0x0a ∷ 0x87 ∷ 0x0b ∷ []) from no_record gives refuses 7 0 with no_record ∣
    -- 8: ftyp where the state is not 1, under 8 bytes, or not in fours
    ftyp_box (four 1 ++ four 2) from no_record gives refuses 8 0 with no_record ∣
    start ++ ftyp_box (four 1 ++ four 2) from no_record gives refuses 8 32 with no_record ∣
    signed ++ ftyp_box (four 1) from no_record gives refuses 8 12 with no_record ∣
    signed ++ ftyp_box (four 1 ++ four 2 ++ 0 ∷ 0 ∷ []) from no_record gives refuses 8 12 with no_record ∣
    -- 9: jp2h before the file type
    signed ++ jp2h_box one from no_record gives refuses 9 12 with no_record ∣
    signed ++ jp2h_box (0 ∷ []) from no_record gives refuses 9 12 with no_record ∣
    jp2h_box one from full_with (status 2147483645 5 6 7) gives refuses 9 0 with full_with (status 2147483645 5 6 7) ∣
    -- 10: a child's header is cut by jp2h's end, its length is 0, or it has a high word
    file (one ++ 0 ∷ 0 ∷ 0 ∷ 8 ∷ 0x66 ∷ 0x72 ∷ 0x65 ∷ []) from no_record gives refuses 10 62 with no_record ∣
    file (one ++ four 1 ++ four 0x66726565 ++ replicate 7 0) from no_record gives refuses 10 62 with no_record ∣
    file (one ++ four 0 ++ four 0x66726565) from no_record gives refuses 10 62 with no_record ∣
    file (one ++ extended_header 0x66726565 1 16) from no_record gives refuses 10 62 with no_record ∣
    -- 11: a child's length is below its header's, or past jp2h
    file (one ++ four 7 ++ four 0x66726565) from no_record gives refuses 11 62 with no_record ∣
    file (one ++ extended_header 0x66726565 0 15) from no_record gives refuses 11 62 with no_record ∣
    file (one ++ extended_header 0x66726565 0 4294967295) from no_record gives refuses 11 62 with no_record ∣
    file (one ++ four 9 ++ four 0x66726565) from no_record gives refuses 11 62 with no_record ∣
    -- 12: jp2h has no ihdr of its own
    file [] from no_record gives refuses 12 32 with no_record ∣
    file (0 ∷ []) from no_record gives refuses 10 40 with no_record ∣
    file (grey_box ++ free_box) from no_record gives refuses 12 32 with no_record ∣
    start ++ jp2h_box one ++ jp2h_box grey_box from no_record gives refuses 12 62 with no_record ∣
    -- 13: ihdr is not of 14 bytes
    file (ihdr_box []) from no_record gives refuses 13 40 with no_record ∣
    file (ihdr_box (replicate 13 1)) from no_record gives refuses 13 40 with no_record ∣
    file (free_box ++ ihdr_box (replicate 15 1)) from no_record gives refuses 13 48 with no_record ∣
    -- 14, 15: zero height, width or count; a count over 16384
    file (sized 0 2 16385) from no_record gives refuses 14 40 with no_record ∣
    file (sized 3 0 16385) from no_record gives refuses 14 40 with no_record ∣
    file (sized 3 2 0) from no_record gives refuses 14 40 with no_record ∣
    file (sized 3 2 16385) from no_record gives refuses 15 40 with no_record ∣
    -- 16: colr of under 3 bytes, even when a colour is held; METH 1 with under 4 left
    file (one ++ colr_box (3 ∷ 0 ∷ [])) from no_record gives refuses 16 62 with no_record ∣
    file (one ++ grey_box ++ colr_box (3 ∷ 0 ∷ [])) from no_record gives refuses 16 77 with no_record ∣
    file (one ++ colr_box (1 ∷ 0 ∷ 0 ∷ 0 ∷ 0 ∷ 0 ∷ [])) from no_record gives refuses 16 62 with no_record ∣
    -- 17: bpcc is not as long as the count
    file (one ++ bpcc_box []) from no_record gives refuses 17 62 with no_record ∣
    file (one ++ bpcc_box (7 ∷ 7 ∷ [])) from no_record gives refuses 17 62 with no_record ∣
    file (bpcc_box (7 ∷ []) ++ one) from no_record gives refuses 17 40 with no_record ∣
    -- 18, 20, 19, 20: pclr
    pclr_box [] from full_with (status 7 5 6 7) gives refuses 18 0 with full_with (status 7 5 6 7) ∣
    file (one ++ pclr_box (0 ∷ 0 ∷ [])) from no_record gives refuses 20 62 with no_record ∣
    file (one ++ pclr_box (0 ∷ 0 ∷ 1 ∷ [])) from no_record gives refuses 19 62 with no_record ∣
    file (one ++ pclr_box (4 ∷ 1 ∷ 1 ∷ [])) from no_record gives refuses 19 62 with no_record ∣
    file (one ++ pclr_box (0 ∷ 1 ∷ 0 ∷ [])) from no_record gives refuses 19 62 with no_record ∣
    file (one ++ pclr_box (0 ∷ 1 ∷ 1 ∷ [])) from no_record gives refuses 20 62 with no_record ∣
    file (one ++ pclr_box (two 2 ++ 3 ∷ 7 ∷ 15 ∷ 0x87 ∷ replicate 7 1)) from no_record gives refuses 20 62 with no_record ∣
    -- 21, 18, 22: cmap
    file (one ++ cmap_box []) from no_record gives refuses 21 62 with no_record ∣
    cmap_box [] from known large (typed 51 52) (lists none none none no_palette (span 70 71) none) (status 4 5 6 7) gives refuses 21 0 with known large (typed 51 52) (lists none none none no_palette (span 70 71) none) (status 4 5 6 7) ∣
    cmap_box [] from full_with (status 7 5 6 7) gives refuses 18 0 with full_with (status 7 5 6 7) ∣
    file (one ++ pclr_box (two 1 ++ 2 ∷ 7 ∷ 7 ∷ 1 ∷ 1 ∷ []) ++ cmap_box (replicate 7 0)) from no_record gives refuses 22 77 with no_record ∣
    -- 18, 23, 24, 23: cdef
    cdef_box [] from full_with (status 7 5 6 7) gives refuses 18 0 with full_with (status 7 5 6 7) ∣
    file (one ++ cdef_box (0 ∷ [])) from no_record gives refuses 23 62 with no_record ∣
    file (one ++ cdef_box (0 ∷ 0 ∷ [])) from no_record gives refuses 24 62 with no_record ∣
    file (one ++ cdef_box (two 2 ++ replicate 11 0)) from no_record gives refuses 23 62 with no_record ∣
    -- a refusal after boxes that were read
    jp2h_box (ihdr_box [] ++ free_box ++ bpcc_box (1 ∷ 2 ∷ 3 ∷ []) ++ colr_box []) from full_with (status 7 5 6 7) gives refuses 16 35 with full_with (status 7 5 6 7) ∣
    end

-- the answer, and the record that a caller has after it
abbrev pub results : Cases → List (Walked × Jp2)
results end = []
results (f from j gives a with m ∣ rest) = (walk f j, after j (walk f j)) ∷ results rest

abbrev pub expected : Cases → List (Walked × Jp2)
expected end = []
expected (f from j gives a with m ∣ rest) = (a m, m) ∷ expected rest

pub read_files_lem : results read_files ≡ expected read_files
unfolding table number part kind_of length_of_header box_length with_bit signature file_type ihdr bpcc lab colr entry_bytes row_bytes pclr cmap cdef split read_all lacks_ihdr jp2h outer run walk after
read_files_lem = refl

pub refused_files_lem : results refused_files ≡ expected refused_files
unfolding table number part kind_of length_of_header box_length with_bit signature file_type ihdr bpcc lab colr entry_bytes row_bytes pclr cmap cdef split read_all lacks_ihdr jp2h outer run walk after
refused_files_lem = refl

-- a box of jp2h that is read alone: one of another kind keeps bit 31 of the image state; a content may end at 4294967295, and not behind it
pub alone :
    (header_box (Unknown 1) 0 4294967295 [] (full_with (status 1 2147483653 2 3)) ≡ accepted (full_with (status 1 4294967295 2 3)))
    × (header_box (Unknown 1) 5 4294967295 (0 ∷ []) no_record ≡ refused 4 5)
    × (jp2h_alone 5 4294967295 [] (full_with (status 2 3 4 5)) ≡ refused 12 5)
    × (jp2h_alone 5 4294967295 (0 ∷ []) (full_with (status 2 3 4 5)) ≡ refused 4 5)
unfolding table number length_of_header box_length split read_all lacks_ihdr jp2h header_box jp2h_alone
alone = (refl, refl, refl, refl)

-- the record before any box
pub blank_case : blank ≡ no_record
blank_case = refl
