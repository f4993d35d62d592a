-- I.5.3.1, Image Header box: HEIGHT (4 bytes), WIDTH (4), NC (2), BPC, C, UnkC and IPR (1 each).
use Rattle.std.specs.Prelude.{ℕ, List, ◌++◌}
use Rattle.box_number.specs.Number.{bytes}
use Rattle.box_kind.specs.declared.Jp2BoxType.TheVariants.{IHDR}
use Rattle.write_rules.specs.declared.Fields.{Fields}
use Rattle.write_rules.specs.Box.{box}
use Rattle.write_rules.specs.Setup.{C, UnkC, IPR}

abbrev pub ihdr_content : Fields → List ℕ
ihdr_content s = bytes 4 s.h ++ bytes 4 s.w ++ bytes 2 s.numcomps ++ bytes 1 s.bpc ++ bytes 1 C ++ bytes 1 UnkC ++ bytes 1 IPR

abbrev pub ihdr : Fields → List ℕ
ihdr s = box IHDR (ihdr_content s)
