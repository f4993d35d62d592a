-- Boxes and files as they are written in the marked cases.
use Rattle.std.specs.Prelude.{ℕ, zero, suc, ◌+◌, ◌/◌, ◌%◌, List, [], ◌∷◌, ◌++◌, length}
use Rattle.box_kind.specs.Kind.{number_of}
use Rattle.box_kind.specs.declared.Jp2BoxType.{Jp2BoxType}
use Rattle.box_kind.specs.declared.Jp2BoxType.TheVariants.{JP, FTYP, JP2H, IHDR, COLR, PCLR, JP2C}
use Rattle.read_signature.specs.Signature.{signature_content}

abbrev pub two : ℕ → List ℕ
two n = n / 256 ∷ n % 256 ∷ []

abbrev pub four : ℕ → List ℕ
four n = two (n / 65536) ++ two (n % 65536)

abbrev pub zeros : ℕ → List ℕ
zeros zero = []
zeros (suc n) = 0 ∷ zeros n

-- LBox, TBox and the content
abbrev pub box_by_number : ℕ → List ℕ → List ℕ
box_by_number type content = four (8 + length content) ++ four type ++ content

-- the box of a kind
abbrev pub box_of : Jp2BoxType → List ℕ → List ℕ
box_of kind content = box_by_number (number_of kind) content

-- LBox 1, TBox, XLBox
abbrev pub extended : ℕ → ℕ → List ℕ
extended type n = four 1 ++ four type ++ four 0 ++ four n

abbrev pub signature_box : List ℕ
signature_box = box_of JP (four signature_content)

-- the brand 'jp2 '
abbrev pub brand : ℕ
brand = 0x6a703220

abbrev pub file_type_box : List ℕ
file_type_box = box_of FTYP (four brand ++ four 0 ++ four brand)

abbrev pub stream_box : List ℕ
stream_box = box_of JP2C []

-- 'free', a type that is none of the kinds
abbrev pub free : ℕ
free = 0x66726565

abbrev pub unknown_box : List ℕ
unknown_box = box_by_number free []

-- height 3, width 2, the count, 8 bits
abbrev pub ihdr_box : ℕ → List ℕ
ihdr_box count = box_of IHDR (four 3 ++ four 2 ++ two count ++ 7 ∷ 7 ∷ 0 ∷ 0 ∷ [])

abbrev pub grey_box : List ℕ
grey_box = box_of COLR (1 ∷ 0 ∷ 0 ∷ four 17)

-- one column with a width byte, and the given count of bytes for its entries
abbrev pub pclr_box : ℕ → ℕ → ℕ → List ℕ
pclr_box entries width bytes = box_of PCLR (two entries ++ 1 ∷ width ∷ [] ++ zeros bytes)

-- signature, file type, jp2h of the given boxes, and the codestream
abbrev pub picture_file : List ℕ → List ℕ
picture_file header = signature_box ++ file_type_box ++ box_of JP2H header ++ stream_box
