-- What finishing a picture answers, and what it leaves in the two destinations.
use Rattle.std.specs.Prelude.{ℕ, ◌≤◌, ◌<◌, ◌≡◌, List, ℤ, pos, length, get_or}
use Rattle.box_refusal.specs.Told.{Told, accepted, refused}
use Rattle.picture_rules.specs.Image.{Image}
pub use Rattle.picture_rules.specs.Image.{fronted}
use Rattle.picture_rules.specs.Finish.{Finishing, finished, declined}

-- how many planes, or document 01's number with its index or needed length
unfoldable pub answered : Finishing → Told ℕ
answered (finished planes) = accepted planes.count
answered (declined number place) = refused number place

-- the numbers of the records; a refusal changes none
unfoldable pub records_after : Finishing → List ℕ → List ℕ
records_after (finished planes) d = fronted planes.components d
records_after (declined number place) d = d

-- the samples; a refusal changes none
unfoldable pub samples_after : Finishing → List ℤ → List ℤ
samples_after (finished planes) d = fronted planes.samples d
samples_after (declined number place) d = d

-- a finishing x is answered by r, and leaves records' and planes' where the destinations were records and planes
pub record Done (x : Finishing) (r : Told ℕ) (records records' : List ℕ) (planes planes' : List ℤ) : Type 0 where
  pub answer : r ≡ answered x
  pub numbers : records' ≡ records_after x records
  pub samples : planes' ≡ samples_after x planes

-- both destinations afterwards, in other words: the finished numbers and samples in front, and behind them every element as it was; a refusal leaves both lists
pub record DestinationsAfter : Type 0 where
  pub numbers : (planes : Image) (d : List ℕ) (i : ℕ) → i < length planes.components → get_or (records_after (finished planes) d) i 0 ≡ get_or planes.components i 0
  pub other-numbers : (planes : Image) (d : List ℕ) (i : ℕ) → length planes.components ≤ i → get_or (records_after (finished planes) d) i 0 ≡ get_or d i 0
  pub samples : (planes : Image) (d : List ℤ) (i : ℕ) → i < length planes.samples → get_or (samples_after (finished planes) d) i (pos 0) ≡ get_or planes.samples i (pos 0)
  pub other-samples : (planes : Image) (d : List ℤ) (i : ℕ) → length planes.samples ≤ i → get_or (samples_after (finished planes) d) i (pos 0) ≡ get_or d i (pos 0)
  pub refused : (number place : ℕ) (d : List ℕ) (e : List ℤ) → (records_after (declined number place) d ≡ d) × (samples_after (declined number place) e ≡ e)
