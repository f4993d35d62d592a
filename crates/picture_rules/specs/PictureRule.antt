-- Demand 3, the picture rule: at whatever point of a finished picture one looks, the sample is the right one.
use Rattle.std.specs.Prelude.{ℕ, ◌+◌, ◌-◌, ◌*◌, ◌≤◌, ◌<◌, ◌≡◌}
use Rattle.read_record.specs.declared.Jp2.{Jp2}
use Rattle.read_channels.specs.Definitions.{definition}
use Rattle.picture_rules.specs.Definitions.{Colour}
use Rattle.picture_rules.specs.Rules.{Pairing}
use Rattle.picture_rules.specs.Image.{Image, width, height, first}
use Rattle.picture_rules.specs.Channels.{channels}
use Rattle.picture_rules.specs.Handed.{EditionTwo}
use Rattle.picture_rules.specs.Words.{Handed, Accepted, Defined, Clear, Empty, Fills}
use Rattle.picture_rules.specs.OwnMark.{OwnMark}

-- one pairing of the channels with the planes serves the whole picture: each channel fills its plane. Each plane has samples of its own: those of a channel come before those of the next. In edition 2 each plane has its own channel's mark
pub record FilledPlanes (h : Handed) (m : Jp2) (planes : Image) : Type 0 where
  pub all-planes : planes.count ≡ channels m h.image.count
  pub pairing : Pairing planes.count
  pub fills : (c : ℕ) → c < planes.count → Fills h m planes c (pairing.to c)
  pub apart :
      (c d : ℕ) → c < d → d < planes.count → (Empty h m c → ⊥) → (Empty h m d → ⊥) →
      let p = pairing.to c in
      first planes p + height planes p * width planes p ≤ first planes (pairing.to d)
  pub marks : EditionTwo h.settings → (c : ℕ) → c < planes.count → OwnMark h m planes c (pairing.to c)

-- and in this pairing the channel defined as colour k fills plane k - 1
pub record RightPlanes (h : Handed) (m : Jp2) (planes : Image) : Type 0 where
  pub filled : FilledPlanes h m planes
  pub colours :
      (j : ℕ) → j < m.lists.cdef.count → Colour (definition h.file m.lists.cdef j) →
      filled.pairing.to (definition h.file m.lists.cdef j).channel ≡ (definition h.file m.lists.cdef j).asoc - 1

abbrev pub PictureRule : Type 0
PictureRule = (h : Handed) (m : Jp2) (planes : Image) → Accepted h m planes → Defined h m → Clear h m → RightPlanes h m planes
