-- Bytes that start at a place of a file: parts of lists that are alike, and parts of the file.
-- Assumes nothing.
use Prim.Native.Nat.{ℕ, ◌+◌, ◌-◌, ◌≤◌, ◌<◌}
use mathlib.Core.Path.{◌≡◌, refl}
use mathlib.Core.List.{List}
use native.Mathlib.Nat.{add_assoc, zero-add}
use native.Mathlib.Omega.{arith}
use lib.ListN.{length, get_or, take, drop, length-take, length-drop}
use lib.Seq.{get_or-take, get_or-drop, ext_get_or}
use Rattle.box_number.specs.Number.{part}
use Rattle.box_header.specs.Box.{length_of_header, box_length}
use Rattle.read_rules.specs.Range.{Range, In, end}
use Rattle.read_rules.specs.Alike.{Alike}
use Rattle.read_rules.proofs.Sames.{Same, Headed, headed}

-- the first box of c is whole
pub record Whole (c : List ℕ) : Type 0 where
  pub header : length_of_header c ≤ length c
  pub least : length_of_header c ≤ box_length c
  pub within : box_length c ≤ length c

-- its content, or the bytes at its place in another list
abbrev pub content : List ℕ → List ℕ → List ℕ
content c e = part e (length_of_header c) (box_length c)

-- and the bytes after it
abbrev pub rest : List ℕ → List ℕ → List ℕ
rest c e = drop (box_length c) e

pub length_part : (s : List ℕ) (start end : ℕ) → start ≤ end → end ≤ length s → start + length (part s start end) ≡ end
unfolding part
length_part s start end h l = simp (length-take, length-drop) (omega arith)

pub length-content : {c : List ℕ} → Whole c → length_of_header c + length (content c c) ≡ box_length c
length-content {c} w = length_part c (length_of_header c) (box_length c) w.least w.within

pub length_rest : {c : List ℕ} → Whole c → box_length c + length (rest c c) ≡ length c
length_rest {c} w = omega (arith, length-drop (box_length c) c, w.within)

-- c and e start at a place, and differ at most in a range
pub record AlikeFrom (at : ℕ) (r : Range) (c e : List ℕ) : Type 0 where
  pub long : length e ≡ length c
  pub outside : (i : ℕ) → i < length c → (In (at + i) r → ⊥) → get_or e i 0 ≡ get_or c i 0

-- two files that differ at most in a range differ at most in a wider one
pub alike-whole : {r : Range} {f g : List ℕ} → Alike f g r → (s : Range) → s.place ≤ r.place → end r ≤ end s → AlikeFrom 0 s f g
alike-whole {r} a s from to = record { long = a.long; outside = λ i l h. a.outside i l (λ (b : In i r). h (omega arith)) }

module _ {at : ℕ} {r : Range} {c e : List ℕ} (a : AlikeFrom at r c e) where
  -- no byte lies in the range
  pub equal-apart : ((i : ℕ) → i < length c → In (at + i) r → ⊥) → e ≡ c
  equal-apart h = ext_get_or 0 e c a.long (λ i l. let b : i < length c = omega (arith, a.long) in a.outside i b (h i b))

  pub equal-before : at + length c ≤ r.place → e ≡ c
  equal-before h = equal-apart (λ i l b. omega arith)

  pub equal-after : end r ≤ at → e ≡ c
  equal-after h = equal-apart (λ i l b. omega arith)

  pub alike-drop : (k : ℕ) → AlikeFrom (at + k) r (drop k c) (drop k e)
  alike-drop k =
      record {
        long = simp (length-drop, a.long);
        outside = λ i l h. simp get_or-drop (a.outside (k + i) (omega (arith, length-drop k c)) (λ (b : In (at + (k + i)) r). h (omega arith)));
      }

  pub alike-take : (k : ℕ) → AlikeFrom at r (take k c) (take k e)
  alike-take k =
      record {
        long = simp (length-take, a.long);
        outside = λ i l h. let b : i < k = omega (arith, length-take k c) in rw (get_or-take k e i 0 b, get_or-take k c i 0 b) (a.outside i (omega (arith, length-take k c)) h);
      }

  -- bytes before the range
  pub alike-first : (n : ℕ) → at + n ≤ r.place → n ≤ length c → Same c 0 e 0 n
  alike-first n h l = record { byte = λ i b. rw zero-add (a.outside i (omega arith) (λ x. omega arith)) }

  pub alike-headed : at + length_of_header c ≤ r.place → length_of_header c ≤ length c → Headed c e
  alike-headed h l = headed c e a.long (alike-first (length_of_header c) h l)

pub alike-part : {at : ℕ} {r : Range} {c e : List ℕ} → AlikeFrom at r c e → (s t : ℕ) → AlikeFrom (at + s) r (part c s t) (part e s t)
unfolding part
alike-part a s t = alike-take (alike-drop a s) (t - s)

-- c is the bytes of f from a place on
pub record Lies (f : List ℕ) (at : ℕ) (c : List ℕ) : Type 0 where
  pub within : at + length c ≤ length f
  pub same : Same f at c 0 (length c)

pub lies_whole : (f : List ℕ) → Lies f 0 f
lies_whole f = record { within = omega arith; same = record { byte = λ i l. refl } }

module _ {f : List ℕ} {at : ℕ} {c : List ℕ} (p : Lies f at c) where
  pub lies_drop : (k : ℕ) → k ≤ length c → Lies f (at + k) (drop k c)
  lies_drop k h =
      record {
        within = omega (arith, p.within, length-drop k c);
        same = record { byte = λ i l. rw (zero-add, get_or-drop k c i 0, add_assoc at k i) (rw zero-add at (p.same.byte (k + i) (omega (arith, length-drop k c)))) };
      }

  lies_take : (k : ℕ) → Lies f at (take k c)
  lies_take k =
      record {
        within = omega (arith, p.within, length-take k c);
        same = record { byte = λ i l. rw (zero-add, get_or-take k c i 0 (omega (arith, length-take k c))) (rw zero-add at (p.same.byte i (omega (arith, length-take k c)))) };
      }

pub lies_part : {f : List ℕ} {at : ℕ} {c : List ℕ} → Lies f at c → (s t : ℕ) → s ≤ length c → Lies f (at + s) (part c s t)
unfolding part
lies_part p s t h = lies_take (lies_drop p s h) (t - s)
