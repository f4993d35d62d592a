-- What finishing leaves in the destinations, once the checks have passed and once they have not.
-- Assumes nothing.
use Prim.Native.Nat.{ℕ, ◌*◌, ◌≤◌}
use native.Mathlib.Omega.{arith}
use mathlib.Core.Path.{◌≡◌, refl, sym, ap, ◌∙◌}
use mathlib.Core.List.{List}
use lib.IntN.{ℤ}
use lib.ListN.{length, length-append}
use Rattle.read_record.specs.declared.Jp2.{Jp2}
use Rattle.read_channels.specs.Definitions.{definitions}
use Rattle.picture_rules.specs.Order.{arranged}
use Rattle.picture_rules.proofs.Flats.{flat-length}
use Rattle.picture_order.specs.Flat.{reordered}
use Rattle.picture_order.proofs.Fronts.{reordered-front}
use Rattle.picture_rules.specs.Image.{Image}
use Rattle.picture_rules.specs.Channels.{channels}
use Rattle.picture_rules.specs.Finish.{Finishing, finished, expanded, picture}
use Rattle.box_refusal.specs.Told.{accepted, refused}
use Rattle.picture_rules.specs.Answers.{answered, fronted, records_after, samples_after, Done}
use Rattle.picture_finish.specs.Private.Parts.{unordered}
use Rattle.picture_rules.proofs.Wholes.{declined-done}
use Rattle.picture_finish.proofs.Rooms.{refused-is}

pub refused-done : (x : Finishing) {number place : ℕ} (records : List ℕ) (planes : List ℤ) → refused number place ≡ answered x → Done x (refused number place) records records planes planes
refused-done x records planes e = declined-done x records planes (refused-is x e)

module _ (edition2 : ℕ) (f : List ℕ) (m : Jp2) (i : Image) where
  -- packed channels that are put in order are the finished picture
  ordered : (n : ℕ) (d : List ℕ) → n ≡ channels m i.count → reordered edition2 f m.lists.cdef n (fronted (unordered f m i).components d) ≡ fronted (picture edition2 f m i).components d
  unfolding unordered picture
  ordered n d e =
      let ds = definitions f m.lists.cdef in
      rw (e, flat-length (expanded f m i) (13 * channels m i.count), flat-length (arranged edition2 (channels m i.count) ds (expanded f m i)).records (13 * channels m i.count))
      (reordered-front edition2 f m.lists.cdef (channels m i.count) (expanded f m i) d)

  -- and there are enough numbers to be put in order
  pub long-enough : {n : ℕ} {packed : List ℕ} (d : List ℕ) → n ≡ channels m i.count → packed ≡ fronted (unordered f m i).components d → 13 * n ≤ length packed
  unfolding unordered
  long-enough d e p = rw (p, length-append, flat-length (expanded f m i) (13 * channels m i.count)) (omega arith)

  same-samples : (unordered f m i).samples ≡ (picture edition2 f m i).samples
  unfolding unordered picture
  same-samples = refl

  counts : (picture edition2 f m i).count ≡ channels m i.count
  unfolding picture
  counts = refl

  pub finished-done : (x : Finishing) {n : ℕ} {records records' packed : List ℕ} {planes planes' : List ℤ} → x ≡ finished (picture edition2 f m i) → n ≡ channels m i.count →
      packed ≡ fronted (unordered f m i).components records → records' ≡ reordered edition2 f m.lists.cdef n packed → planes' ≡ fronted (unordered f m i).samples planes →
      Done x (accepted n) records records' planes planes'
  unfolding answered records_after samples_after
  finished-done x {n} {records} {records'} {packed} {planes} {planes'} e all p r s =
      record {
        answer = rw e (ap accepted (all ∙ sym counts));
        numbers = rw e (r ∙ ap (reordered edition2 f m.lists.cdef n) p ∙ ordered n records all);
        samples = rw e (s ∙ ap (λ xs. fronted xs planes) same-samples);
      }
