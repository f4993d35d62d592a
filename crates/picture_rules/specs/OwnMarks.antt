-- Document 02, request R-2: in edition 2 each plane has the mark from its own channel's definition.
use Rattle.std.specs.Prelude.{ℕ, ◌<◌, ◌≡◌}
use Rattle.read_record.specs.declared.Jp2.{Jp2}
use Rattle.picture_rules.specs.Image.{Image, mark}
use Rattle.picture_rules.specs.Handed.{EditionTwo}
use Rattle.picture_rules.specs.Words.{Handed, Accepted, Defined, Clear}
use Rattle.picture_rules.specs.PictureRule.{FilledPlanes, RightPlanes}
use Rattle.picture_rules.specs.OwnMark.{LastOf, defined}

-- with definitions that are present and applied: plane `to c` has the typ of the last definition of channel c
abbrev pub MarkedBy : (h : Handed) (m : Jp2) (planes : Image) → FilledPlanes h m planes → Type 0
MarkedBy h m planes filled = (c j : ℕ) → c < planes.count → LastOf h m c j → mark planes (filled.pairing.to c) ≡ (defined h m j).typ

pub record OwnMarks : Type 0 where
  -- in the pairing that fills the planes, clashing definitions too
  pub every : (h : Handed) (m : Jp2) (planes : Image) → Accepted h m planes → Defined h m → EditionTwo h.settings → (filled : FilledPlanes h m planes) × MarkedBy h m planes filled
  -- in the same pairing as the picture rule's
  pub right : (h : Handed) (m : Jp2) (planes : Image) → Accepted h m planes → Defined h m → Clear h m → EditionTwo h.settings → (right : RightPlanes h m planes) × MarkedBy h m planes right.filled
  -- and every channel has a last definition
  pub all : (h : Handed) (m : Jp2) (planes : Image) → Accepted h m planes → Defined h m → EditionTwo h.settings → (c : ℕ) → c < planes.count → (j : ℕ) × LastOf h m c j
