-- Kinds by their numbers, and the fields of lists that are kept in a file, computed.
use Rattle.std.specs.Prelude.{ℕ, ◌≡◌, refl, List, [], ◌∷◌}
use Rattle.box_number.specs.Number.{number}
use Rattle.box_number.specs.Table.{table}
use Rattle.box_kind.specs.Kind.{kind_of}
use Rattle.box_kind.specs.declared.Jp2BoxType.TheVariants.{JPIP, JP, FTYP, JP2H, IHDR, COLR, JP2C, URL, PCLR, CMAP, CDEF, DTBL, BPCC, JP2, RES, JP2I, XML, UUID, UINF, Unknown}
use Rattle.read_record.specs.Record.{span, palette}
use Rattle.read_signature.specs.FileType.{CL}
use Rattle.read_image.specs.Bpcc.{BPCi}
use Rattle.read_palette.specs.Pclr.{depth, sign, entry_bytes, row_bytes, B, row_size, Cji}
use Rattle.read_channels.specs.Cmap.{CMP, MTYP, PCOL}
use Rattle.read_channels.specs.Cdef.{Cn, Typ, Asoc}

-- the kinds by their numbers, with the crate's number of UUID and not the standard's
pub kinds :
    (kind_of 0x6a706970 ∷ kind_of 0x6a502020 ∷ kind_of 0x66747970 ∷ kind_of 0x6a703268 ∷ kind_of 0x69686472 ∷ kind_of 0x636f6c72 ∷ kind_of 0x6a703263 ∷ kind_of 0x75726c20 ∷ kind_of 0x70636c72 ∷ kind_of 0x636d6170 ∷ kind_of 0x63646566 ∷ [])
    ≡ (JPIP ∷ JP ∷ FTYP ∷ JP2H ∷ IHDR ∷ COLR ∷ JP2C ∷ URL ∷ PCLR ∷ CMAP ∷ CDEF ∷ [])
unfolding table kind_of
kinds = refl

pub other-kinds :
    (kind_of 0x6474626c ∷ kind_of 0x62706363 ∷ kind_of 0x6a703220 ∷ kind_of 0x72657320 ∷ kind_of 0x6a703269 ∷ kind_of 0x786d6c20 ∷ kind_of 0x75756994 ∷ kind_of 0x75696e66 ∷ kind_of 0x75756964 ∷ kind_of 0 ∷ [])
    ≡ (DTBL ∷ BPCC ∷ JP2 ∷ RES ∷ JP2I ∷ XML ∷ UUID ∷ UINF ∷ Unknown 0x75756964 ∷ Unknown 0 ∷ [])
unfolding table kind_of
other-kinds = refl

-- the fields of lists that are kept in a file, here the bytes 0, 1, 2 and so on: compatibility list, depths, mappings, definitions
abbrev pub counting : List ℕ
counting =
    0 ∷ 1 ∷ 2 ∷ 3 ∷ 4 ∷ 5 ∷ 6 ∷ 7 ∷ 8 ∷ 9 ∷ 10 ∷ 11 ∷ 12 ∷ 13 ∷ 14 ∷ 15 ∷ 16 ∷ 17 ∷ 18 ∷ 19 ∷ 20 ∷ 21 ∷ 22 ∷ 23 ∷ 24 ∷ 25 ∷ 26 ∷ 27 ∷ []

pub list-fields :
    (CL counting (span 4 3) 2 ∷ BPCi counting (span 5 9) 3 ∷ CMP counting (span 8 3) 2 ∷ MTYP counting (span 8 3) 2 ∷ PCOL counting (span 8 3) 2 ∷ Cn counting (span 10 3) 2 ∷ Typ counting (span 10 3) 2 ∷ Asoc counting (span 10 3) 2 ∷ [])
    ≡ (0x0c0d0e0f ∷ 8 ∷ 0x1011 ∷ 0x12 ∷ 0x13 ∷ 0x1617 ∷ 0x1819 ∷ 0x1a1b ∷ [])
unfolding number
list-fields = refl

-- a Bi: the depth, the sign, and the bytes of an entry
pub widths :
    ((depth 0 ∷ depth 0x7f ∷ depth 0x80 ∷ depth 0xff ∷ []) ≡ (1 ∷ 128 ∷ 1 ∷ 128 ∷ []))
    × ((sign 0x7f ∷ sign 0x80 ∷ sign 0xff ∷ []) ≡ (0 ∷ 1 ∷ 1 ∷ []))
    × ((entry_bytes 0 ∷ entry_bytes 7 ∷ entry_bytes 8 ∷ entry_bytes 15 ∷ entry_bytes 16 ∷ entry_bytes 23 ∷ entry_bytes 24 ∷ entry_bytes 31 ∷ entry_bytes 32 ∷ entry_bytes 0x7f ∷ entry_bytes 0x87 ∷ entry_bytes 0x88 ∷ []) ≡ (1 ∷ 1 ∷ 2 ∷ 2 ∷ 3 ∷ 3 ∷ 4 ∷ 4 ∷ 4 ∷ 4 ∷ 1 ∷ 2 ∷ []))
unfolding table entry_bytes
widths = (refl, refl, refl)

-- a palette that is kept behind one byte: two rows of three columns, of 1, 2 and 4 bytes
abbrev pub columns : List ℕ
columns = 99 ∷ 0x07 ∷ 0x8f ∷ 0x25 ∷ 1 ∷ 2 ∷ 3 ∷ 4 ∷ 5 ∷ 6 ∷ 7 ∷ 8 ∷ 9 ∷ 10 ∷ 11 ∷ 12 ∷ 13 ∷ 14 ∷ []

pub entries :
    (B columns (palette 1 2 3) 1 ∷ row_size columns (palette 1 2 3) ∷ Cji columns (palette 1 2 3) 0 0 ∷ Cji columns (palette 1 2 3) 0 1 ∷ Cji columns (palette 1 2 3) 0 2 ∷ Cji columns (palette 1 2 3) 1 0 ∷ Cji columns (palette 1 2 3) 1 1 ∷ Cji columns (palette 1 2 3) 1 2 ∷ [])
    ≡ (0x8f ∷ 7 ∷ 1 ∷ 0x0203 ∷ 0x04050607 ∷ 8 ∷ 0x090a ∷ 0x0b0c0d0e ∷ [])
unfolding table number entry_bytes row_bytes Cji
entries = refl
