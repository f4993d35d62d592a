-- Demand 3, order freedom: in whatever order a camera lists its definitions, the finished picture is the same.
use Rattle.std.specs.Prelude.{ℕ, ◌+◌, ◌*◌, ◌≤◌, ◌<◌, ◌≡◌, List, ℤ, length}
use Rattle.read_record.specs.declared.Jp2.{Jp2}
use Rattle.read_record.specs.Answer.{accepted}
use Rattle.read_rules.specs.File.{read}
use Rattle.read_rules.specs.Alike.{given, Alike}
use Rattle.read_rules.specs.Alike as reading
use Rattle.read_channels.specs.Definitions.{definitions}
use Rattle.picture_rules.specs.Definitions.{Reordered}
use Rattle.picture_rules.specs.Edition.{order_free_numbers}
use Rattle.picture_rules.specs.Handed.{EditionTwo}
use Rattle.picture_rules.specs.Image.{Image, listed, component, width, height, first, no_data, fronted}
use Rattle.picture_rules.specs.Words.{Handed, Accepted, IsAccepted, Defined, Clear}

-- the same picture with another file
abbrev pub with_file : List ℕ → Handed → Handed
with_file g h = record { file = g; image = h.image; settings = h.settings; records = h.records; samples = h.samples }

-- pictures alike in all but the order of definitions, of which the first file is read: all inputs are equal, except that the definition list in the file holds the
-- same definitions, each as often, in another order
pub record AlikeButOrder (h : Handed) (g : List ℕ) (m : Jp2) : Type 0 where
  pub reads : given (read h.file) ≡ accepted m
  pub alike : Alike h.file g (reading.definition_range m)
  pub reordered : Reordered (definitions h.file m.lists.cdef) (definitions g m.lists.cdef)

-- equal finished records, in edition 1 marks aside, and equal finished samples
pub record SamePlanes (edition2 : ℕ) (planes others : Image) : Type 0 where
  pub count : others.count ≡ planes.count
  pub records : (p k : ℕ) → p < planes.count → k < order_free_numbers edition2 → component others p k ≡ component planes p k
  pub samples : others.samples ≡ planes.samples

-- the same of the destinations, with n planes in front. `records` and `others` are two lists of records afterwards: their numbers are equal, in edition 1 marks aside. Of the lists of samples `planes` became `planes'`, and
-- `pixels` became `pixels'`: both begin with the same finished samples, in which every plane lies, and behind them is what was there before
pub record SameDestinations (edition2 n : ℕ) (records others : List ℕ) (planes planes' pixels pixels' : List ℤ) : Type 0 where
  pub numbers : (p k : ℕ) → p < n → k < order_free_numbers edition2 → component (listed others) p k ≡ component (listed records) p k
  pub samples : List ℤ
  pub all_in : (p : ℕ) → p < n → (first (listed records) p ≡ no_data → ⊥) → first (listed records) p + height (listed records) p * width (listed records) p ≤ length samples
  pub here : planes' ≡ fronted samples planes
  pub there : pixels' ≡ fronted samples pixels

pub record OrderFreedom : Type 0 where
  -- both are accepted, with as many planes, or neither
  pub both : (h : Handed) (g : List ℕ) (m : Jp2) (n : ℕ) → AlikeButOrder h g m → IsAccepted h n → IsAccepted (with_file g h) n
  pub neither : (h : Handed) (g : List ℕ) (m : Jp2) (n : ℕ) → AlikeButOrder h g m → IsAccepted (with_file g h) n → IsAccepted h n
  -- and where they are, with definitions that clash nowhere, they have the same planes at the same places
  pub same : (h : Handed) (g : List ℕ) (m k : Jp2) (planes others : Image) → AlikeButOrder h g m → Accepted h m planes → Accepted (with_file g h) k others → Defined h m → Clear h m → SamePlanes h.settings.edition2 planes others
  -- in edition 2 they are one picture, marks and all
  pub equal :
      (h : Handed) (g : List ℕ) (m k : Jp2) (planes others : Image) → AlikeButOrder h g m → Accepted h m planes → Accepted (with_file g h) k others → Defined h m → Clear h m →
      EditionTwo h.settings → others ≡ planes
