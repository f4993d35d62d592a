-- What holds of every finished picture, with no premise on its definitions: they may clash, be absent, or count for nothing because of the settings.
use Rattle.std.specs.Prelude.{ℕ, ◌<◌, ◌≡◌}
use Rattle.read_record.specs.declared.Jp2.{Jp2}
use Rattle.picture_rules.specs.Image.{Image}
use Rattle.picture_rules.specs.Finish.{counted}
use Rattle.picture_rules.specs.Words.{Handed, Accepted}
use Rattle.picture_rules.specs.PictureRule.{FilledPlanes}

-- each channel fills a plane of its own; where nothing defines the channels, channel c fills plane c
pub record EveryPlane (h : Handed) (m : Jp2) (planes : Image) : Type 0 where
  pub filled : FilledPlanes h m planes
  pub in_order : m.lists.cdef.count ≡ 0 → (c : ℕ) → c < planes.count → filled.pairing.to c ≡ c

-- with what the settings leave of the record
abbrev pub EveryPicture : Type 0
EveryPicture = (h : Handed) (m : Jp2) (planes : Image) → Accepted h m planes → EveryPlane h (counted h.settings m) planes
