-- I.5.2, File Type box: BR (4 bytes), MinV (4), and one CL (4).
use Rattle.std.specs.Prelude.{ℕ, List, ◌++◌}
use Rattle.box_number.specs.Number.{bytes}
use Rattle.box_kind.specs.declared.Jp2BoxType.TheVariants.{FTYP}
use Rattle.write_rules.specs.Box.{box}

-- the brand of JP2, the four characters 'jp2 '
abbrev pub BR : ℕ
BR = 0x6a703220

abbrev pub MinV : ℕ
MinV = 0

-- the one entry of the compatibility list
abbrev pub CL : ℕ
CL = BR

abbrev pub file_type_content : List ℕ
file_type_content = bytes 4 BR ++ bytes 4 MinV ++ bytes 4 CL

abbrev pub file_type : List ℕ
file_type = box FTYP file_type_content
