-- I.5.3.3, Colour Specification box: METH, PREC, APPROX (1 byte each), then EnumCS (4) for METH 1, the profile for METH 2. Difference 25: any profile is written as it is.
use Rattle.std.specs.Prelude.{ℕ, List, ◌++◌}
use Rattle.box_number.specs.Number.{bytes}
use Rattle.box_number.specs.Table.{◌=?◌, otherwise, ◌⇒◌∣◌, table}
use Rattle.box_kind.specs.declared.Jp2BoxType.TheVariants.{COLR}
use Rattle.read_colour.specs.Colr.{enumerated}
use Rattle.write_rules.specs.declared.Fields.{Fields}
use Rattle.write_rules.specs.Box.{box}
use Rattle.write_rules.specs.Setup.{PREC, APPROX}

-- what METH asks for
unfoldable pub specification : Fields → List ℕ → List ℕ
specification s profile = table (s.meth =? enumerated ⇒ bytes 4 s.enumcs ∣ otherwise profile)

abbrev pub colr_content : Fields → List ℕ → List ℕ
colr_content s profile = bytes 1 s.meth ++ bytes 1 PREC ++ bytes 1 APPROX ++ specification s profile

abbrev pub colr : Fields → List ℕ → List ℕ
colr s profile = box COLR (colr_content s profile)
