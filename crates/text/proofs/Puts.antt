-- Pieces that are put one after the other, and the loops that do so.
-- Assumes nothing.
use Prim.Native.Nat.{ℕ, ◌+◌, ◌-◌, ◌≤◌, ◌<◌, min}
use native.Mathlib.Omega.{arith}
use native.Mathlib.Nat.{add-zero}
use borrow.Author.Tests.{ltb-true, ltb-false}
use mathlib.Core.Path.{◌≡◌, refl, sym, ap, ap₂, ◌∙◌}
use mathlib.Core.List.{List, [], ◌++◌, append-nil, append_assoc}
use lib.Dec.{ltb}
use lib.ListN.{length, take, length-append, length-take}
use lib.Seq.{take_all, take-append-le, take-append-add, take-nil, drop-drop}
use borrow.Rule.Slice.PartMut.{put_mid}
use Rattle.std.proofs.lemmas.List.{take_min}
use Rattle.box_number.specs.Number.{placed}
use Rattle.box_number.proofs.Rows.{either}
use Rattle.box_number.proofs.Placing.{placed-none, length-placed, placed_then}
use Rattle.text.specs.Text.{put, after}

-- what a function promises that is given d and a place, and leaves e and answers k
abbrev pub Puts : List ℕ → ℕ → List ℕ → List ℕ → ℕ → Type 0
Puts d at xs e k = (k ≡ after d at xs) × (e ≡ put d at xs)

-- a place inside the list, or past it
inside : {X : Type 0} (d : List ℕ) (at : ℕ) → (at ≤ length d → X) → (length d < at → X) → X
inside d at f g = either (ltb (length d) at) (λ b. g (ltb-true _ _ b)) (λ b. f (ltb-false _ _ b))

-- of two pieces the second has the room that the first leaves
take-two : (n : ℕ) (xs ys : List ℕ) → take n (xs ++ ys) ≡ take n xs ++ take (n - length (take n xs)) ys
take-two n xs ys = either (ltb (length xs) n) (λ b. long (ltb-true _ _ b)) (λ b. short (ltb-false _ _ b))
  where
    long : length xs < n → take n (xs ++ ys) ≡ take n xs ++ take (n - length (take n xs)) ys
    long h =
        let e : length xs + (n - length xs) ≡ n = omega arith in
        let t : take n xs ≡ xs = take_all n xs (omega arith) in
        rw t (rw e at (take-append-add xs ys (n - length xs)))

    short : n ≤ length xs → take n (xs ++ ys) ≡ take n xs ++ take (n - length (take n xs)) ys
    short h =
        let e : n - length (take n xs) ≡ 0 = simp length-take (omega arith) in
        rw (e, append-nil) (take-append-le n xs ys h)

module _ (d : List ℕ) (at : ℕ) where
  pub put-past : (xs : List ℕ) → length d ≤ at → Puts d at xs d at
  unfolding put after
  put-past xs h = let z : length d - at ≡ 0 = omega arith in rw z (sym (add-zero at), sym (placed-none d at))

  pub put-none : Puts d at [] d at
  unfolding put after
  put-none = rw take-nil (sym (add-zero at), sym (placed-none d at))

  pub length-put : (xs : List ℕ) → length (put d at xs) ≡ length d
  unfolding put
  length-put xs =
      inside d at
      (λ h. length-placed d at (take (length d - at) xs) (simp length-take (omega arith)))
      (λ h. ap length (sym (put-past xs (omega arith)).1))

  -- one piece after the other
  pub after_then : (xs ys : List ℕ) → after (put d at xs) (after d at xs) ys ≡ after d at (xs ++ ys)
  unfolding after
  after_then xs ys =
      let n = length d - at in
      let x = length (take n xs) in
      let e : length d - (at + x) ≡ n - x = omega arith in
      rw (length-put xs, e, take-two n xs ys, length-append (take n xs) (take (n - x) ys)) (omega arith)

  pub put_then : (xs ys : List ℕ) → put (put d at xs) (after d at xs) ys ≡ put d at (xs ++ ys)
  unfolding put after
  put_then xs ys = inside d at within past
    where
      within : at ≤ length d → put (put d at xs) (after d at xs) ys ≡ put d at (xs ++ ys)
      within h =
          let n = length d - at in
          let x = length (take n xs) in
          let e : length d - (at + x) ≡ n - x = omega arith in
          let l : at + (x + length (take (n - x) ys)) ≤ length d = simp length-take (omega arith) in
          rw (length-put xs, e, take-two n xs ys) (placed_then d at (take n xs) (take (n - x) ys) l)

      past : length d < at → put (put d at xs) (after d at xs) ys ≡ put d at (xs ++ ys)
      past h =
          let p = put-past xs (omega arith) in
          ap₂ (λ e k. put e k ys) (sym p.1) (sym p.0) ∙ sym (put-past ys (omega arith)).1 ∙ (put-past (xs ++ ys) (omega arith)).1

  pub puts_then : (xs ys : List ℕ) {e f : List ℕ} {k m : ℕ} → Puts d at xs e k → Puts e k ys f m → Puts d at (xs ++ ys) f m
  puts_then xs ys p q =
      ((q.0 ∙ ap₂ (λ e k. after e k ys) p.1 p.0 ∙ after_then xs ys), (q.1 ∙ ap₂ (λ e k. put e k ys) p.1 p.0 ∙ put_then xs ys))

  -- the same text under another name
  pub puts-same : {xs ys e : List ℕ} {k : ℕ} → xs ≡ ys → Puts d at xs e k → Puts d at ys e k
  puts-same s p = rw s at p

  pub same_length : (xs : List ℕ) {e : List ℕ} {k : ℕ} → Puts d at xs e k → length e ≡ length d
  same_length xs p = ap length p.1 ∙ length-put xs

  -- the part of a text that has room, copied over a part of d
  pub put_part : (xs ys : List ℕ) (n m : ℕ) → at < length d → n ≡ min (length xs) (length d - at) → m ≡ n → ys ≡ take m xs → Puts d at xs (put_mid at m d ys) (at + n)
  unfolding put after placed
  put_part xs ys n m h e f g =
      let i : n ≡ min (length d - at) (length xs) = omega arith in
      let t : take (length d - at) xs ≡ ys = sym (take_min (length d - at) xs) ∙ ap (λ k. take k xs) (sym (f ∙ i)) ∙ sym g in
      let l : length ys ≡ n = ap length g ∙ simp length-take (omega arith) in
      rw t (ap (λ k. at + k) (sym l), rw (l, ← f, drop-drop m at d, append_assoc))

-- in a loop: what is left of the text, put from here on, gives the same as the whole text
pub record Left (d₀ : List ℕ) (at : ℕ) (whole d : List ℕ) (k : ℕ) (rest : List ℕ) : Type 0 where
  pub long : length d ≡ length d₀
  pub place : after d k rest ≡ after d₀ at whole
  pub list : put d k rest ≡ put d₀ at whole

pub start : (d : List ℕ) (at : ℕ) (whole : List ℕ) → Left d at whole d at whole
start d at whole = record { long = refl; place = refl; list = refl }

module _ {d₀ : List ℕ} {at : ℕ} {whole d : List ℕ} {k : ℕ} where
  pub turn : (xs : List ℕ) {ys rest e : List ℕ} {m : ℕ} → Left d₀ at whole d k ys → ys ≡ xs ++ rest → Puts d k xs e m → Left d₀ at whole e m rest
  turn xs {ys} {rest} l s p =
      let q : Left d₀ at whole d k (xs ++ rest) = rw s at l in
      record {
        long = same_length d k xs p ∙ l.long;
        place = ap₂ (λ e m. after e m rest) p.1 p.0 ∙ after_then d k xs rest ∙ q.place;
        list = ap₂ (λ e m. put e m rest) p.1 p.0 ∙ put_then d k xs rest ∙ q.list;
      }

  pub done : {rest : List ℕ} → Left d₀ at whole d k rest → rest ≡ [] → Puts d₀ at whole d k
  done {rest} l e =
      let q : Left d₀ at whole d k [] = rw e at l in
      ((put-none d k).0 ∙ q.place, (put-none d k).1 ∙ q.list)
