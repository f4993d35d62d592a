-- What the rules of demand 3 say of a point and of a record: a rule is of no use to a reader if it speaks of no row, no column or no record.
-- Assumes nothing.
use Prim.Native.Nat.{ℕ, ◌+◌, ◌*◌, ◌≤◌, ◌<◌}
use mathlib.Core.Path.{◌≡◌, refl, sym, ap, subst, ◌∙◌}
use mathlib.Core.List.{List}
use native.Mathlib.Nat.{mul-le-mul_right}
use native.Mathlib.Omega.{arith}
use lib.IntN.{ℤ, pos}
use lib.ListN.{length, drop, get_or-append}
use Rattle.read_record.specs.declared.Jp2.{Jp2}
use Rattle.box_number.proofs.Rows.{each}
use Rattle.picture_rules.specs.Edition.{order_free_numbers}
use Rattle.picture_rules.specs.Image.{Image, image, listed, component, width, height, first, mark, no_data, sample_at}
use Rattle.picture_rules.specs.Finish.{Finishing, finished}
use Rattle.picture_rules.specs.Words.{Handed, Accepted, Defined, Clear, Empty, channel_sample}
use Rattle.picture_rules.specs.OwnMark.{LastOf, defined}
use Rattle.picture_rules.specs.PictureRule.{FilledPlanes}
use Rattle.picture_rules.specs.EveryPicture.{EveryPlane}
use Rattle.picture_rules.specs.OrderFreedom.{with_file, AlikeButOrder, SamePlanes, SameDestinations, OrderFreedom}
use Rattle.picture_rules.proofs.Orders.{all-numbers, only}

-- at every point of channel c's plane is the channel's sample
pub tells-sample :
    (h : Handed) (m : Jp2) (planes : Image) (filled : FilledPlanes h m planes) (c : ℕ) → c < planes.count → (Empty h m c → ⊥) →
    let p = filled.pairing.to c in
    (y x : ℕ) → y < height planes p → x < width planes p → sample_at planes p y x ≡ channel_sample h m c y x
tells-sample h m planes filled c l some y x a b = (filled.fills c l).sample some y x a b

-- and where the channel has samples, the last one of its plane is in the list
pub tells-inside :
    (h : Handed) (m : Jp2) (planes : Image) (filled : FilledPlanes h m planes) (c : ℕ) → c < planes.count → (Empty h m c → ⊥) →
    let p = filled.pairing.to c in
    first planes p + height planes p * width planes p ≤ length planes.samples
tells-inside h m planes filled c l some = (filled.fills c l).inside some

-- no sample is in two planes
pub tells-apart :
    (h : Handed) (m : Jp2) (planes : Image) (filled : FilledPlanes h m planes) (c d : ℕ) → c < d → d < planes.count → (Empty h m c → ⊥) → (Empty h m d → ⊥) →
    let p = filled.pairing.to c in
    let q = filled.pairing.to d in
    (y x : ℕ) → y < height planes p → x < width planes p → first planes p + y * width planes p + x < first planes q
tells-apart h m planes filled c d l b some other y x a e =
    let p = filled.pairing.to c in
    omega (arith, filled.apart c d l b some other, mul-le-mul_right (width planes p) a)

same-picture : {x : Finishing} {made planes : Image} → x ≡ finished made → x ≡ finished planes → planes ≡ made
same-picture e d = cc

-- two accepted pictures that are alike in all but the order of definitions have as many planes, whatever the definitions are
pub tells-count :
    OrderFreedom → (h : Handed) (g : List ℕ) (m k : Jp2) (planes others : Image) → AlikeButOrder h g m → Accepted h m planes → Accepted (with_file g h) k others → others.count ≡ planes.count
tells-count free h g m k planes others o y z =
    let (j, made, x, e) = free.both h g m planes.count o (m, planes, y, refl) in
    let w = subst (λ k. Accepted (with_file g h) k others) (only x.reading z.reading) z in
    ap (λ (p : Image). p.count) (same-picture x.finishing w.finishing) ∙ e

-- in edition 2 every record of the same planes has the same mark
pub tells-mark : (edition2 : ℕ) (planes others : Image) → (edition2 ≡ 0 → ⊥) → SamePlanes edition2 planes others → (p : ℕ) → p < planes.count → mark others p ≡ mark planes p
tells-mark edition2 planes others second same p l = same.records p 12 l (all-numbers edition2 12 second (omega arith))

-- every flag but 0 is edition 2. With it the plane of each channel has the typ of the channel's last definition as its mark
pub tells-own-mark :
    (h : Handed) (m : Jp2) (planes : Image) (filled : FilledPlanes h m planes) → (h.settings.edition2 ≡ 0 → ⊥) → 0 < m.lists.cdef.count → (c : ℕ) → c < planes.count →
    (j : ℕ) × LastOf h m c j × (mark planes (filled.pairing.to c) ≡ (defined h m j).typ)
tells-own-mark h m planes filled second some c l = (filled.marks second c l).from-definition some

-- and pictures that are alike in all but the order of definitions are one
pub tells-one :
    OrderFreedom → (h : Handed) (g : List ℕ) (m k : Jp2) (planes others : Image) → AlikeButOrder h g m → Accepted h m planes → Accepted (with_file g h) k others → Defined h m → Clear h m →
    (h.settings.edition2 ≡ 0 → ⊥) → others ≡ planes
tells-one free h g m k planes others o y z applied clear second = free.equal h g m k planes others o y z applied clear second

-- every channel is in order where nothing defines the channels
pub tells-order :
    (h : Handed) (m : Jp2) (planes : Image) (every : EveryPlane h m planes) → m.lists.cdef.count ≡ 0 → (c : ℕ) → c < planes.count → every.filled.pairing.to c ≡ c
tells-order h m planes every none c l = every.in_order none c l

-- every number but the mark of every record is the same in both destinations, whatever the edition
pub tells-number :
    (edition2 n : ℕ) (records others : List ℕ) (planes planes' pixels pixels' : List ℤ) → SameDestinations edition2 n records others planes planes' pixels pixels' →
    (p k : ℕ) → p < n → k < 12 → component (listed others) p k ≡ component (listed records) p k
unfolding order_free_numbers
tells-number edition2 n records others planes planes' pixels pixels' same p k l b =
    same.numbers p k l (each (λ many. k < many) _ ((λ _. b), λ _. omega arith))

-- in edition 2 the mark too
pub tells-marks :
    (edition2 n : ℕ) (records others : List ℕ) (planes planes' pixels pixels' : List ℤ) → (edition2 ≡ 0 → ⊥) → SameDestinations edition2 n records others planes planes' pixels pixels' →
    (p : ℕ) → p < n → mark (listed others) p ≡ mark (listed records) p
tells-marks edition2 n records others planes planes' pixels pixels' second same p l =
    same.numbers p 12 l (all-numbers edition2 12 second (omega arith))

-- so is every sample of every plane
pub tells_both :
    (edition2 n : ℕ) (records others : List ℕ) (planes planes' pixels pixels' : List ℤ) → SameDestinations edition2 n records others planes planes' pixels pixels' →
    (p y x : ℕ) → p < n → (first (listed records) p ≡ no_data → ⊥) → y < height (listed records) p → x < width (listed records) p →
    sample_at (image others n pixels') p y x ≡ sample_at (image records n planes') p y x
tells_both edition2 n records others planes planes' pixels pixels' same p y x l some b c =
    let equal = tells-number edition2 n records others planes planes' pixels pixels' same p in
    let s = same.samples in
    let start = first (listed records) p in
    let wide = width (listed records) p in
    let inside : start + y * wide + x < length s = omega (arith, same.all_in p l some, mul-le-mul_right wide b) in
    rw (equal 11 l (omega arith), equal 2 l (omega arith), same.here, same.there)
    (get_or-append s (drop (length s) pixels) (pos 0) (start + y * wide + x) inside ∙ sym (get_or-append s (drop (length s) planes) (pos 0) (start + y * wide + x) inside))

-- and where both lists of samples had the same content before, they have it afterwards
pub tells-samples :
    (edition2 n : ℕ) (records others : List ℕ) (planes planes' pixels' : List ℤ) → SameDestinations edition2 n records others planes planes' planes pixels' → pixels' ≡ planes'
tells-samples edition2 n records others planes planes' pixels' same = same.there ∙ sym same.here
