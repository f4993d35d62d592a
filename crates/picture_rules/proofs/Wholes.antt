-- Reading and finishing in one step: what the answer of reading leads to, and the picture rule of the destinations.
-- Assumes nothing.
use Prim.Native.Nat.{ℕ}
use mathlib.Core.Path.{◌≡◌, refl, sym, ap, subst, ◌∙◌}
use mathlib.Core.List.{List, [], ◌++◌}
use lib.IntN.{ℤ}
use lib.ListN.{length, drop}
use Rattle.box_refusal.specs.Told.{Told, accepted, refused}
use Rattle.read_record.specs.declared.Jp2.{Jp2}
use Rattle.read_rules.specs.declared.FileEnd.{FileEnd}
use Rattle.read_rules.specs.declared.FileEnd.TheVariants.{Codestream, Ended}
use Rattle.read_rules.specs.File.{file_refused, read, came_to}
use Rattle.read_rules.specs.Alike.{given}
use Rattle.picture_rules.specs.Image.{Image, image}
use Rattle.picture_rules.specs.Finish.{Finishing, finished, declined, counted, finish}
use Rattle.picture_rules.specs.Handed.{Handed}
use Rattle.picture_rules.specs.Words.{Accepted}
use Rattle.picture_rules.specs.PictureRule.{RightPlanes}
use Rattle.picture_rules.specs.EveryPicture.{EveryPlane}
use Rattle.picture_rules.specs.OrderFreedom.{with_file, AlikeButOrder, SameDestinations}
use Rattle.picture_rules.proofs.Orders.{either_first}
use Rattle.picture_rules.proofs.Destinations.{right-in-place, every-in-place, same-in-place}
use Rattle.picture_rules.proofs.Demand3.{order_freedom}
use Rattle.picture_rules.specs.Answers.{answered, fronted, records_after, samples_after, Done}
use Rattle.picture_rules.specs.Met.{otherwise-turned, direct_file, direct_example, direct_planes, paletted_file, paletted, paletted_planes, opacity_file, listed_last, opacity_example, opacity_planes, Met}
use Rattle.picture_rules.proofs.Mets.{direct_met, palette_met, opacity_met}
use Rattle.picture_rules.specs.Whole.{pictured, PictureRight, PictureFilled, PictureOrderFree, ReadPicture, Speaks}

-- a refusal leaves both destinations
pub declined-done : (x : Finishing) {number place : ℕ} (records : List ℕ) (planes : List ℤ) → x ≡ declined number place → Done x (refused number place) records records planes planes
unfolding answered records_after samples_after
declined-done x records planes e = record { answer = rw e refl; numbers = rw e refl; samples = rw e refl }

-- where a file ended says that it is read to a record
given-came : (end : FileEnd) (m : Jp2) → given (came_to end m) ≡ accepted m
given-came (Codestream offset) m = refl
given-came Ended m = refl

-- planes that are answered are those of a finished picture
planes_of_lem : (x : Finishing) (n : ℕ) → answered x ≡ accepted n → (p : Image) × (x ≡ finished p) × (p.count ≡ n)
unfolding answered
planes_of_lem (finished p) n e = (p, refl, cc)
planes_of_lem (declined number place) n e = absurd (cc)

accepted_of : (h : Handed) (m : Jp2) (p : Image) → pictured h ≡ finished p → given (read h.file) ≡ accepted m → Accepted h m p
unfolding pictured
accepted_of h m p e a = record { reading = a; finishing = rw a at e }

pictured_of : (h : Handed) (m : Jp2) (p : Image) → Accepted h m p → pictured h ≡ finished p
unfolding pictured
pictured_of h m p y = rw y.reading y.finishing

-- the same number of planes is answered for a file that is alike in all but the order of definitions
as_many : (h : Handed) (g : List ℕ) (m : Jp2) (n : ℕ) → AlikeButOrder h g m → answered (pictured h) ≡ accepted n → answered (pictured (with_file g h)) ≡ accepted n
unfolding answered
as_many h g m n o e =
    let (p, is, count) = planes_of_lem (pictured h) n e in
    let (k, q, y, same) = order_freedom.both h g m n o (m, p, accepted_of h m p is o.reads, count) in
    ap answered (pictured_of (with_file g h) k q y) ∙ ap accepted same

module _ (h : Handed) where
  pub reading-refused : {number place : ℕ} → file_refused number place ≡ read h.file → pictured h ≡ declined number place
  unfolding pictured
  reading-refused e = rw (← e)

  pub reading-on : (end : FileEnd) (m : Jp2) → came_to end m ≡ read h.file → pictured h ≡ finish h m
  unfolding pictured
  reading-on end m e = rw (← e, given-came end m)

  -- what holds of every accepted picture, whatever follows it, holds of the destinations where planes are answered
  carried :
      (x : Finishing) {r : Told ℕ} (records : List ℕ) (planes : List ℤ) {records' : List ℕ} {planes' : List ℤ} → pictured h ≡ x → r ≡ answered x → records' ≡ records_after x records → planes' ≡ samples_after x planes →
      (P : Image → Type 0) (m : Jp2) (n : ℕ) → given (read h.file) ≡ accepted m → r ≡ accepted n →
      ((p : Image) → Accepted h m p → (d : List ℕ) (e : List ℤ) → P (image (p.components ++ d) p.count (p.samples ++ e))) → P (image records' n planes')
  unfolding answered records_after samples_after pictured
  carried (finished p) records planes is a u v P m n accepts e holds =
      let q : n ≡ p.count = cc in
      let f : finish h m ≡ finished p = rw accepts at is in
      rw (q, u, v) (holds p (record { reading = accepts; finishing = f }) (drop (length p.components) records) (drop (length p.samples) planes))
  carried (declined number place) records planes is a u v P m n accepts e holds = absurd (cc)

  -- demand 3, and what of it needs no premise
  right : (x : Finishing) {r : Told ℕ} (records : List ℕ) (planes : List ℤ) {records' : List ℕ} {planes' : List ℤ} → pictured h ≡ x → r ≡ answered x → records' ≡ records_after x records → planes' ≡ samples_after x planes → PictureRight h r records' planes'
  right x records planes is a u v m n accepts e defined clear = carried x records planes is a u v (RightPlanes h m) m n accepts e (λ p y d s. right-in-place h m p y defined clear d s)

  every : (x : Finishing) {r : Told ℕ} (records : List ℕ) (planes : List ℤ) {records' : List ℕ} {planes' : List ℤ} → pictured h ≡ x → r ≡ answered x → records' ≡ records_after x records → planes' ≡ samples_after x planes → PictureFilled h r records' planes'
  every x records planes is a u v m n accepts e = carried x records planes is a u v (EveryPlane h (counted h.settings m)) m n accepts e (λ p y d s. every-in-place h m p y d s)

  free : {r : Told ℕ} (records : List ℕ) (planes : List ℤ) {records' : List ℕ} {planes' : List ℤ} → Done (pictured h) r records records' planes planes' → PictureOrderFree h r records' planes planes'
  unfolding records_after samples_after
  free {r} records planes {records'} {planes'} x g m o other others others' pixels pixels' y = (
    (λ n. ((λ e. y.answer ∙ as_many h g m n o (sym x.answer ∙ e)), λ e. x.answer ∙ as_many (with_file g h) h.file m n (either_first h g m o) (sym y.answer ∙ e))),
    λ n e defined clear.
        let answers : answered (pictured h) ≡ accepted n = sym x.answer ∙ e in
        let (p, here, count) = planes_of_lem (pictured h) n answers in
        let (q, there, _) = planes_of_lem (pictured (with_file g h)) n (as_many h g m n o answers) in
        let same = same-in-place h g m p q o (accepted_of h m p here o.reads) (accepted_of (with_file g h) m q there (either_first h g m o).reads) defined clear records others planes pixels in
        let a : records' ≡ fronted p.components records = x.numbers ∙ ap (λ w. records_after w records) here in
        let b : others' ≡ fronted q.components others = y.numbers ∙ ap (λ w. records_after w others) there in
        let c : planes' ≡ fronted p.samples planes = x.samples ∙ ap (λ w. samples_after w planes) here in
        let d : pixels' ≡ fronted q.samples pixels = y.samples ∙ ap (λ w. samples_after w pixels) there in
        subst (λ n. SameDestinations h.settings.edition2 n records' others' planes planes' pixels pixels') count (rw (a, b, c, d) same),
  )

  -- the whole promise
  pub shows : (x : Finishing) {r : Told ℕ} (records : List ℕ) (planes : List ℤ) {records' : List ℕ} {planes' : List ℤ} → pictured h ≡ x → Done x r records records' planes planes' → ReadPicture h r records records' planes planes'
  shows x {r} records planes {records'} {planes'} is d =
      let done : Done (pictured h) r records records' planes planes' = rw is d in
      record {
        done = done;
        demand3 = record {
          right = right x records planes is d.answer d.numbers d.samples;
          filled = every x records planes is d.answer d.numbers d.samples;
          free = free records planes done;
        };
      }

  pub shows-refused : {number place : ℕ} (records : List ℕ) (planes : List ℤ) → pictured h ≡ declined number place → ReadPicture h (refused number place) records records planes planes
  shows-refused {number} {place} records planes is = shows (declined number place) records planes is (declined-done (declined number place) records planes refl)

-- the rules in the promise are not empty ones: with a palette and without, their premises are met
speaks : (h : Handed) (planes : Image) (other : List ℕ) → Met h planes other → Speaks h planes other
speaks h planes other met rule =
    let x = pictured (with_file other h) in
    let free = rule.free other met.kept met.alike (answered x) [] (records_after x []) [] (samples_after x []) (record { answer = refl; numbers = refl; samples = refl }) in
    record {
      right = (met.kept, rule.right met.kept planes.count met.accepted.reading refl met.defined met.clear);
      filled = (met.kept, rule.filled met.kept planes.count met.accepted.reading refl);
      as_many = (free.0 planes.count).0 refl;
      same = free.1 planes.count refl met.defined met.clear;
    }

pub speaks-direct : Speaks direct_example direct_planes (direct_file otherwise-turned)
speaks-direct = speaks direct_example direct_planes _ direct_met

-- in edition 2 too
pub speaks-opacity : Speaks opacity_example opacity_planes (opacity_file listed_last)
speaks-opacity = speaks opacity_example opacity_planes _ opacity_met

pub speaks-paletted : Speaks paletted paletted_planes (paletted_file otherwise-turned)
speaks-paletted = speaks paletted paletted_planes _ palette_met
