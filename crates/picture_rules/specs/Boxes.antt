-- Files of small pictures, put together box by box, for tables of computed cases.
use Rattle.std.specs.Prelude.{ℕ, List, [], ◌∷◌, ◌++◌, length, replicate}
use Rattle.box_number.specs.Number.{bytes}
use Rattle.box_kind.specs.declared.Jp2BoxType.TheVariants.{JP2H, IHDR, PCLR, CMAP, CDEF}
use Rattle.read_rules.specs.Files.{box_of, signature_box, file_type_box}
use Rattle.read_channels.specs.Definitions.{Def}

-- columns of 8 bits, and the rows one after the other
abbrev pub palette_box : ℕ → ℕ → List ℕ → List ℕ
palette_box entries columns rows = box_of PCLR (bytes 2 entries ++ bytes 1 columns ++ replicate columns 7 ++ rows)

-- component, type, column
abbrev pub mapping : ℕ → ℕ → ℕ → List ℕ
mapping c type column = bytes 2 c ++ bytes 1 type ++ bytes 1 column

abbrev pub mapping_box : List ℕ → List ℕ
mapping_box mappings = box_of CMAP mappings

abbrev pub definition_fields : List Def → List ℕ
definition_fields [] = []
definition_fields (d ∷ ds) = bytes 2 d.channel ++ bytes 2 d.typ ++ bytes 2 d.asoc ++ definition_fields ds

abbrev pub definition_box : List Def → List ℕ
definition_box ds = box_of CDEF (bytes 2 (length ds) ++ definition_fields ds)

-- signature, file type, and a jp2h of an ihdr for n components of 8 bits and the given boxes
abbrev pub file_of : ℕ → List ℕ → List ℕ
file_of n boxes =
    signature_box ++ file_type_box
    ++ box_of JP2H (box_of IHDR (bytes 4 1 ++ bytes 4 1 ++ bytes 2 n ++ 7 ∷ 7 ∷ 0 ∷ 0 ∷ []) ++ boxes)
