-- I.5.4, Contiguous Codestream box: its header, with the length that the caller gives; the codestream comes after it.
use Rattle.std.specs.Prelude.{ℕ, List}
use Rattle.box_kind.specs.declared.Jp2BoxType.TheVariants.{JP2C}
use Rattle.write_rules.specs.Box.{box_header}

abbrev pub stream_header : ℕ → List ℕ
stream_header codestream = box_header JP2C codestream
