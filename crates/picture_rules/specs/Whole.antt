-- Reading a file and finishing its picture in one step, and what demand 3 says of the destinations afterwards.
use Rattle.std.specs.Prelude.{ℕ, ◌≡◌, List, [], ℤ, length}
use Rattle.box_refusal.specs.Told.{Told, accepted, refused}
use Rattle.read_record.specs.declared.Jp2.{Jp2}
use Rattle.read_record.specs.Answer.{Result}
use Rattle.read_rules.specs.File.{read}
use Rattle.read_rules.specs.Alike.{given}
use Rattle.picture_rules.specs.Image.{Image, image}
use Rattle.picture_rules.specs.Finish.{Finishing, declined, counted, finish}
use Rattle.picture_rules.specs.Handed.{Settings, Handed}
use Rattle.picture_rules.specs.Words.{Defined, Clear}
use Rattle.picture_rules.specs.PictureRule.{RightPlanes}
use Rattle.picture_rules.specs.EveryPicture.{EveryPlane}
use Rattle.picture_rules.specs.OrderFreedom.{with_file, AlikeButOrder, SameDestinations}
use Rattle.picture_rules.specs.Answers.{answered, records_after, samples_after, Done}

-- all inputs of finishing; of the destinations their lengths
abbrev pub handed : List ℕ → Settings → List ℕ → ℕ → List ℤ → List ℕ → List ℤ → Handed
handed file s comps count samples records planes = record { file = file; image = image comps count samples; settings = s; records = length records; samples = length planes }

-- a refusal of reading, or what is made of the record
abbrev pub then_finish : Result → (Jp2 → Finishing) → Finishing
then_finish (accepted m) next = next m
then_finish (refused number place) next = declined number place

-- the picture is finished with the record from reading its file
unfoldable pub pictured : Handed → Finishing
pictured h = then_finish (given (read h.file)) (finish h)

-- demand 3, of the destinations themselves: where planes are answered, with definitions that are present, applied and clash nowhere, each channel fills its plane and each colour has its own
abbrev pub PictureRight : Handed → Told ℕ → List ℕ → List ℤ → Type 0
PictureRight h answer records planes =
    (m : Jp2) (n : ℕ) → given (read h.file) ≡ accepted m → answer ≡ accepted n → Defined h m → Clear h m → RightPlanes h m (image records n planes)

-- and with no premise on the definitions: each channel fills a plane of its own and, where nothing defines the channels, channel c plane c
abbrev pub PictureFilled : Handed → Told ℕ → List ℕ → List ℤ → Type 0
PictureFilled h answer records planes =
    (m : Jp2) (n : ℕ) → given (read h.file) ≡ accepted m → answer ≡ accepted n → EveryPlane h (counted h.settings m) (image records n planes)

-- two answers have as many planes, or neither has any
abbrev pub SameAnswer : Told ℕ → Told ℕ → Type 0
SameAnswer r s = (n : ℕ) → (r ≡ accepted n → s ≡ accepted n) × (s ≡ accepted n → r ≡ accepted n)

-- order freedom, of the destinations themselves. Had any other file been handed in, alike in all but the order of definitions, with all else equal (of the destinations the length; `others` and `pixels` are what they contain):
-- both answer as many planes, or neither any; and with definitions that are present, applied and clash nowhere, the destinations have the same records, in edition 1 marks aside, and the same samples
abbrev pub PictureOrderFree : Handed → Told ℕ → List ℕ → List ℤ → List ℤ → Type 0
PictureOrderFree h answer records' planes planes' =
    (g : List ℕ) (m : Jp2) → AlikeButOrder h g m →
    (other : Told ℕ) (others others' : List ℕ) (pixels pixels' : List ℤ) → Done (pictured (with_file g h)) other others others' pixels pixels' →
    SameAnswer answer other × ((n : ℕ) → answer ≡ accepted n → Defined h m → Clear h m → SameDestinations h.settings.edition2 n records' others' planes planes' pixels pixels')

-- demand 3 of the destinations: both halves, and what of the first needs no premise
pub record Demand3 (h : Handed) (answer : Told ℕ) (records' : List ℕ) (planes planes' : List ℤ) : Type 0 where
  pub right : PictureRight h answer records' planes'
  pub filled : PictureFilled h answer records' planes'
  pub free : PictureOrderFree h answer records' planes planes'

-- the whole promise: the answer, both destinations, and demand 3
pub record ReadPicture (h : Handed) (r : Told ℕ) (records records' : List ℕ) (planes planes' : List ℤ) : Type 0 where
  pub done : Done (pictured h) r records records' planes planes'
  pub demand3 : Demand3 h r records' planes planes'

-- what demand 3 says of these planes for these inputs, and of another file: they are right, and filled, and the other file leaves the same
pub record Said (h : Handed) (planes : Image) (other : List ℕ) : Type 0 where
  pub right : (m : Jp2) × RightPlanes h m planes
  pub filled : (m : Jp2) × EveryPlane h (counted h.settings m) planes
  pub as_many : answered (pictured (with_file other h)) ≡ accepted planes.count
  pub same : SameDestinations h.settings.edition2 planes.count planes.components (records_after (pictured (with_file other h)) []) [] planes.samples [] (samples_after (pictured (with_file other h)) [])

-- so it says something
abbrev pub Speaks : Handed → Image → List ℕ → Type 0
Speaks h planes other = Demand3 h (accepted planes.count) planes.components [] planes.samples → Said h planes other
