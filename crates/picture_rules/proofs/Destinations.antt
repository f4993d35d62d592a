-- Demand 3 of the destinations, and what holds of every picture: all of it holds of them whatever follows the picture in them.
-- Assumes nothing.
use Prim.Native.Nat.{ℕ, ◌+◌, ◌*◌, ◌≤◌, ◌<◌}
use native.Mathlib.Omega.{arith}
use mathlib.Core.Path.{◌≡◌, refl, sym, ap, subst, ◌∙◌}
use mathlib.Core.List.{List, [], ◌++◌, append-nil}
use lib.IntN.{ℤ}
use lib.ListN.{length, drop, get_or-append}
use Rattle.read_record.specs.declared.Jp2.{Jp2}
use Rattle.picture_rules.proofs.Rules.{order_pairs, colour_lands, order_free}
use Rattle.picture_rules.proofs.Marks.{order_marks}
use Rattle.read_channels.specs.Definitions.{definitions}
use Rattle.picture_rules.specs.Order.{arranged}
use Rattle.picture_rules.specs.Image.{Image, image, listed, width, height, first, no_data, fronted}
use Rattle.picture_rules.specs.Channels.{channels}
use Rattle.picture_rules.specs.Finish.{counted, expanded, picture}
use Rattle.picture_rules.specs.Words.{Handed, Accepted, Defined, Clear, Fills}
use Rattle.picture_rules.specs.PictureRule.{RightPlanes}
use Rattle.picture_rules.specs.EveryPicture.{EveryPlane}
use Rattle.picture_rules.specs.OrderFreedom.{with_file, AlikeButOrder, SameDestinations}
use Rattle.picture_rules.proofs.Flats.{flat-length}
use Rattle.picture_rules.proofs.Orders.{few-numbers, order_freedom_from}
use Rattle.picture_rules.proofs.Checks.{passed, applied}
use Rattle.picture_rules.proofs.Mappings.{kept, kept-counted}
use Rattle.picture_rules.proofs.Pictures.{right, every}

pub right-in-place :
    (h : Handed) (m : Jp2) (planes : Image) → Accepted h m planes → Defined h m → Clear h m →
    (d : List ℕ) (e : List ℤ) → RightPlanes h m (image (planes.components ++ d) planes.count (planes.samples ++ e))
right-in-place h m planes accepted defined clear d e =
    let y = applied h m planes defined.applied accepted.finishing in
    subst (λ made. RightPlanes h m (image (made.components ++ d) made.count (made.samples ++ e))) (sym y.is_made)
    (right h m d e order_pairs y.checked y.lists (kept h.file m y.file) order_marks colour_lands clear)

pub every-in-place :
    (h : Handed) (m : Jp2) (planes : Image) → Accepted h m planes →
    (d : List ℕ) (e : List ℤ) → EveryPlane h (counted h.settings m) (image (planes.components ++ d) planes.count (planes.samples ++ e))
every-in-place h m planes accepted d e =
    let y = passed h m planes accepted.finishing in
    subst (λ made. EveryPlane h (counted h.settings m) (image (made.components ++ d) made.count (made.samples ++ e))) (sym y.1)
    (every h (counted h.settings m) d e order_pairs y.0.checked y.0.lists (kept-counted h.settings (kept h.file m y.0.file)) order_marks)

-- the records of a finished picture have thirteen numbers each
records-long : (h : Handed) (m : Jp2) (planes : Image) → Accepted h m planes → length planes.components ≡ 13 * planes.count
unfolding picture
records-long h m planes accepted =
    let k = counted h.settings m in
    let n = channels k h.image.count in
    rw (passed h m planes accepted.finishing).1
    (flat-length (arranged h.settings.edition2 n (definitions h.file k.lists.cdef) (expanded h.file k h.image)).records (13 * n))

-- every plane with samples lies in those that are finished
inside-samples :
    (h : Handed) (m : Jp2) (planes : Image) → Accepted h m planes → (d : List ℕ) →
    let made = listed (planes.components ++ d) in
    (p : ℕ) → p < planes.count → (first made p ≡ no_data → ⊥) → first made p + height made p * width made p ≤ length planes.samples
inside-samples h m planes accepted d p l some =
    let filled = (every-in-place h m planes accepted d []).filled in
    let pairing = filled.pairing in
    let fills = subst (Fills h (counted h.settings m) (image (planes.components ++ d) planes.count (planes.samples ++ [])) (pairing.from p)) (pairing.to-from p l) (filled.fills (pairing.from p) (pairing.from-below p l)) in
    rw append-nil at (fills.inside (λ e. some (fills.empty e)))

pub same-in-place :
    (h : Handed) (g : List ℕ) (m : Jp2) (planes others : Image) → AlikeButOrder h g m → Accepted h m planes → Accepted (with_file g h) m others → Defined h m → Clear h m →
    (d c : List ℕ) (e x : List ℤ) →
    SameDestinations h.settings.edition2 planes.count (fronted planes.components d) (fronted others.components c) e (fronted planes.samples e) x (fronted others.samples x)
same-in-place h g m planes others alike accepted other defined clear d c e x =
    let s = (order_freedom_from order_free).same h g m m planes others alike accepted other defined clear in
    record {
      numbers = λ p k l b.
          let few = few-numbers h.settings.edition2 k b in
          get_or-append others.components _ 0 (13 * p + k) (omega (arith, records-long (with_file g h) m others other, s.count))
          ∙ s.records p k (omega arith) b
          ∙ sym (get_or-append planes.components _ 0 (13 * p + k) (omega (arith, records-long h m planes accepted)));
      samples = planes.samples;
      all_in = λ p l some. omega (arith, inside-samples h m planes accepted (drop (length planes.components) d) p l some);
      here = refl;
      there = ap (λ samples. fronted samples x) s.samples;
    }
