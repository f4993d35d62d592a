-- I.5.1, JPEG 2000 Signature box: four bytes.
use Rattle.std.specs.Prelude.{ℕ, List}
use Rattle.box_number.specs.Number.{bytes}
use Rattle.box_kind.specs.declared.Jp2BoxType.TheVariants.{JP}
use Rattle.read_signature.specs.Signature.{signature_content}
use Rattle.write_rules.specs.Box.{box}

abbrev pub signature : List ℕ
signature = box JP (bytes 4 signature_content)
