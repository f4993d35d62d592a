-- Document 01, "Words of demand 3", each as a definition.
use Rattle.std.specs.Prelude.{ℕ, ◌+◌, ◌*◌, ◌≤◌, ◌<◌, ◌≡◌, ℤ, length}
use Rattle.read_record.specs.declared.Jp2.{Jp2}
use Rattle.read_record.specs.Answer.{accepted}
use Rattle.read_rules.specs.File.{read}
use Rattle.read_rules.specs.Alike.{given}
use Rattle.read_channels.specs.Definitions.{definitions}
use Rattle.picture_rules.specs.Rules.{Once}
pub use Rattle.picture_rules.specs.Handed.{Handed}
use Rattle.picture_rules.specs.Image.{Image, width, height, first, no_data, sample_at}
use Rattle.picture_rules.specs.Channels.{component_of}
use Rattle.picture_rules.specs.Samples.{value_of}
use Rattle.picture_rules.specs.Finish.{finished, finish}

-- file and image are accepted: reading answers no number, and finishing with the record from reading answers none
pub record Accepted (h : Handed) (m : Jp2) (planes : Image) : Type 0 where
  pub reading : given (read h.file) ≡ accepted m
  pub finishing : finish h m ≡ finished planes

-- accepted, with some record, and finished to n planes
abbrev pub IsAccepted : Handed → ℕ → Type 0
IsAccepted h n = (m : Jp2) × (planes : Image) × Accepted h m planes × (planes.count ≡ n)

-- definitions are present, and applied
pub record Defined (h : Handed) (m : Jp2) : Type 0 where
  pub present : 0 < m.lists.cdef.count
  pub applied : h.settings.ignore ≡ 0

-- no channel is defined twice, and no colour number given twice
abbrev pub Clear : Handed → Jp2 → Type 0
Clear h m = Once (definitions h.file m.lists.cdef)

-- channel c's component
abbrev pub source : Handed → Jp2 → ℕ → ℕ
source h m c = component_of h.file m c

-- channel c's sample at row y, column x: its component's or, with type 1, what the palette's column c has for it
abbrev pub channel_sample : Handed → Jp2 → ℕ → ℕ → ℕ → ℤ
channel_sample h m c y x = value_of h.file m h.image.count c (sample_at h.image (source h m c) y x)

-- channel c's component has no samples
abbrev pub Empty : Handed → Jp2 → ℕ → Type 0
Empty h m c = first h.image (source h m c) ≡ no_data

-- channel c fills plane p; where there are samples, all of the plane lies inside the list of samples
pub record Fills (h : Handed) (m : Jp2) (planes : Image) (c p : ℕ) : Type 0 where
  pub wide : width planes p ≡ width h.image (source h m c)
  pub high : height planes p ≡ height h.image (source h m c)
  pub empty : Empty h m c → first planes p ≡ no_data
  pub empty_only : first planes p ≡ no_data → Empty h m c
  pub inside : (Empty h m c → ⊥) → first planes p + height planes p * width planes p ≤ length planes.samples
  pub sample : (Empty h m c → ⊥) → (y x : ℕ) → y < height planes p → x < width planes p → sample_at planes p y x ≡ channel_sample h m c y x
