-- Elements that are placed in a list, whatever they are: the laws of every loop that writes, and of pieces one after the other.
-- Assumes nothing.
use Prim.Native.Nat.{ℕ, suc, ◌+◌, ◌≤◌, ◌<◌}
use native.Mathlib.Nat.{add-zero}
use native.Mathlib.Numerals.{add-one}
use native.Mathlib.Omega.{arith}
use mathlib.Core.Path.{◌≡◌, refl, sym, ap, ◌∙◌}
use mathlib.Core.List.{List, [], ◌∷◌, ◌++◌, append_assoc, append-nil}
use lib.ListN.{length, take, drop, get_or, set, length-set, length-append, length-take, length-drop, take-append-drop}
use lib.Seq.{paste, paste-suc, paste-zero, drop-drop, set_split, take-set-le, take_all, drop_at, length-take-le, take_at, take-append_seam, drop-append-add}
use Rattle.std.proofs.lemmas.Slice.{put_mid-paste}
use borrow.Rule.Slice.PartMut.{put_mid}
use Rattle.box_number.specs.Number.{placed}

module _ {A : Type 0} (d : List A) (at : ℕ) where
  pub placed-none : placed d at [] ≡ d
  unfolding placed
  placed-none = rw (append-nil, add-zero) (take-append-drop at d)

  pub length-placed : (xs : List A) → at + length xs ≤ length d → length (placed d at xs) ≡ length d
  unfolding placed
  length-placed xs h = simp (length-append, length-take, length-drop) (omega arith)

  -- the last one may be set first
  pub placed-last : (xs : List A) (b : A) → at + length xs < length d → placed (set d (at + length xs) b) at xs ≡ placed d at (xs ++ (b ∷ []))
  unfolding placed
  placed-last xs b h =
      let e : drop (at + length xs) (set d (at + length xs) b) ≡ b ∷ drop (suc (at + length xs)) d =
      rw (set_split d (at + length xs) b h) (drop_at (take (at + length xs) d) (b ∷ drop (suc (at + length xs)) d) (at + length xs) (length-take-le (at + length xs) d (omega arith)))
      in
      let l : at + length (xs ++ (b ∷ [])) ≡ suc (at + length xs) = simp length-append (omega arith) in
      rw (e, l, take-set-le at d (at + length xs) b (omega arith)) (simp append_assoc)

  -- one piece after the other
  pub placed_then : (xs ys : List A) → at + (length xs + length ys) ≤ length d → placed (placed d at xs) (at + length xs) ys ≡ placed d at (xs ++ ys)
  unfolding placed
  placed_then xs ys h =
      let k = at + length xs in
      let p = take at d ++ xs in
      let l : length p ≡ k = simp (length-append, length-take) (omega arith) in
      let t : take k (p ++ drop k d) ≡ p = take_at p (drop k d) k l in
      let r : drop (k + length ys) (p ++ drop k d) ≡ drop (k + length ys) d =
      sym (drop-drop (length ys) k (p ++ drop k d)) ∙ ap (λ (x : List A). drop (length ys) x) (drop_at p (drop k d) k l) ∙ drop-drop (length ys) k d
      in
      let e : at + length (xs ++ ys) ≡ k + length ys = simp length-append (omega arith) in
      rw (t, r, e) (simp append_assoc)

-- e is d with the first j of s placed from at on
pub record Placing {A : Type 0} (d : List A) (at : ℕ) (s e : List A) (j : ℕ) : Type 0 where
  pub pasted : e ≡ paste d at s j
  pub long : length e ≡ length d

module _ {A : Type 0} (d : List A) (at : ℕ) (s : List A) where
  pub placing_none : Placing d at s d 0
  placing_none = record { pasted = paste-zero d at s; long = refl }

  pub placing_more : (e : List A) (j : ℕ) (z v : A) → Placing d at s e j → at + j < length d → j < length s → v ≡ get_or s j z → Placing d at s (set e (at + j) v) (j + 1)
  placing_more e j z v p h k q = record { pasted = rw (p.pasted, q, add-one) (paste-suc d at s j z h k); long = length-set e (at + j) v ∙ p.long }

  -- at the end all n elements are there
  pub placing_all : (e : List A) (j n : ℕ) → Placing d at s e j → j ≡ n → n ≤ length s → e ≡ placed d at (take n s)
  unfolding placed
  placing_all e j n p q h = rw (length-take-le n s h, ← q) p.pasted

  -- all of them
  pub placing_whole : (e : List A) (j : ℕ) → Placing d at s e j → j ≡ length s → e ≡ placed d at s
  placing_whole e j p q = placing_all e j (length s) p q (omega arith) ∙ ap (placed d at) (take_all (length s) s (omega arith))

  -- and the other way round
  pub placing_from : {e : List A} (j : ℕ) → j ≤ length s → at + j ≤ length d → e ≡ placed d at (take j s) → Placing d at s e j
  unfolding placed
  placing_from j h r q = record { pasted = q ∙ rw (length-take-le j s h); long = ap length q ∙ simp (length-append, length-take, length-drop) (omega arith) }

-- one piece after another: xs are in front, and ys are placed after them
pub placed-after : {A : Type 0} (d xs ys : List A) → placed (xs ++ drop (length xs) d) (length xs) ys ≡ xs ++ ys ++ drop (length (xs ++ ys)) d
unfolding placed
placed-after d xs ys = rw (take-append_seam, drop-append-add, drop-drop, length-append)

-- a slice of a list that was copied over: k is its end
pub copied-over : {A : Type 0} (d : List A) (at k : ℕ) (xs : List A) {ys : List A} → ys ≡ xs → k ≡ length xs → put_mid at k d ys ≡ placed d at xs
unfolding placed
copied-over {A} d at k xs {ys} p q = put_mid-paste at k d ys xs (length xs) p (sym q) refl ∙ ap (λ (zs : List A). take at d ++ zs ++ drop (at + length xs) d) (take_all (length xs) xs (omega arith))
