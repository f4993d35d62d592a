-- The bytes of a file from a place on: pieces of it, the content of a box, numbers in a series.
-- Assumes nothing.
use Prim.Native.Nat.{ℕ, zero, suc, ◌+◌, ◌-◌, ◌*◌, ◌≤◌, ◌<◌}
use mathlib.Core.Path.{◌≡◌, refl, sym, ap, ◌∙◌}
use mathlib.Core.List.{List, ◌++◌}
use native.Mathlib.Nat.{add-zero, zero-add, mul-suc, mul-le-mul_left}
use native.Mathlib.Omega.{arith}
use lib.ListN.{length, get_or, take, drop, length-append, length-take, length-drop, get_or-append}
use lib.Seq.{take-append_seam, drop-append_seam, get_or-take, get_or-drop, ext_get_or}
use Rattle.box_number.specs.Number.{number, part}
use Rattle.box_kind.specs.declared.Jp2BoxType.{Jp2BoxType}
use Rattle.read_rules.proofs.Sames.{within, number_same}
use Rattle.read_rules.proofs.Parts.{Lies, lies_drop, lies_part}
use Rattle.box_number.proofs.Indices.{last_or}
use Rattle.write_rules.specs.Box.{box_header, box, series}
use Rattle.write_rules.proofs.Numbers.{number-after}
use Rattle.write_rules.proofs.Lengths.{length-header, length-series}

module _ {f : List ℕ} {at : ℕ} where
  pub lies_right : (a b : List ℕ) → Lies f at (a ++ b) → (to : ℕ) → at + length a ≡ to → Lies f to b
  lies_right a b p to e = rw (drop-append_seam a b, e) at (lies_drop p (length a) (rw length-append (omega arith)))

  pub lies_left : (a b : List ℕ) → Lies f at (a ++ b) → Lies f at a
  unfolding part
  lies_left a b p =
      let e : length a - 0 ≡ length a = omega arith in
      rw (e, take-append_seam a b, add-zero) at (lies_part p 0 (length a) (omega arith))

  pub lies_content : (type : Jp2BoxType) (content : List ℕ) → Lies f at (box type content) → Lies f (at + 8) content
  unfolding box
  lies_content type content p = lies_right (box_header type (length content)) content p (at + 8) (ap (λ (n : ℕ). at + n) (length-header type (length content)))

  -- a number of a piece is a number of the file
  pub number_lies : {c : List ℕ} → Lies f at c → (i n : ℕ) → i + n ≤ length c → number f (at + i) n ≡ number c i n
  number_lies p i n h = sym (rw zero-add at (number_same n (within p.same i n h)))

  -- the piece itself
  piece_is : {c : List ℕ} → Lies f at c → (n : ℕ) → length c ≡ n → take n (drop at f) ≡ c
  piece_is {c} p n e =
      let w = p.within in
      let l : length (take n (drop at f)) ≡ n = rw (length-take, length-drop) (omega arith) in
      let byte : (i : ℕ) → i < n → get_or f (at + i) 0 ≡ get_or c i 0 = λ i s. sym (rw zero-add at (p.same.byte i (omega arith))) in
      ext_get_or 0 (take n (drop at f)) c (l ∙ sym e) (λ i b. let s : i < n = omega arith in rw (get_or-take n (drop at f) i 0 s, get_or-drop at f i 0) (byte i s))

  pub part_lies : {c : List ℕ} → Lies f at c → part f at (at + length c) ≡ c
  unfolding part
  part_lies {c} p = let e : at + length c - at ≡ length c = omega arith in rw e (piece_is p (length c) refl)

-- a number in bytes that others follow
pub number-before : (a b : List ℕ) (at n : ℕ) → at + n ≤ length a → number (a ++ b) at n ≡ number a at n
unfolding number
number-before a b at zero h = refl
number-before a b at (suc n) h = rw (number-before a b at n (omega arith), get_or-append a b 0 (at + n) (omega arith))

-- a number of piece i comes after i pieces
module _ (piece : ℕ → List ℕ) (w : ℕ) (wide : (i : ℕ) → length (piece i) ≡ w) where
  pub number-series : (n i j k : ℕ) → i < n → j + k ≤ w → number (series piece n) (w * i + j) k ≡ number (piece i) j k
  unfolding series
  number-series zero i j k l h = absurd (omega arith)
  number-series (suc n) i j k l h =
      let s = length-series piece w wide n in
      last_or n i l
      (λ e. rw e (rw s at (number-after (series piece n) (piece n) j k)))
      (λ b. number-before (series piece n) (piece n) (w * i + j) k (omega (arith, mul-le-mul_left w b, mul-suc w i)) ∙ number-series n i j k b h)
