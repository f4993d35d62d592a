-- Pieces that are put one after the other to a place of a list.
-- Assumes nothing.
use Prim.Native.Nat.{ℕ, ◌+◌, ◌≤◌}
use native.Mathlib.Omega.{arith}
use mathlib.Core.Path.{◌≡◌, refl, sym, ap, ap₂, ◌∙◌}
use mathlib.Core.List.{List, [], ◌++◌}
use lib.ListN.{length, length-append}
use Rattle.box_number.specs.Number.{placed}
use Rattle.box_number.proofs.Placing.{placed-none, length-placed, placed_then}

-- e is d with xs, which are m, from a place on; k is the place after them
pub record Put {A : Type 0} (d : List A) (at : ℕ) (xs : List A) (m : ℕ) (e : List A) (k : ℕ) : Type 0 where
  pub long : length xs ≡ m
  pub is : e ≡ placed d at xs
  pub end : k ≡ at + m

-- what a function that puts n of them promises
abbrev pub Puts : {A : Type 0} → List A → ℕ → List A → ℕ → List A → ℕ → Type 0
Puts d at ys n e k = (k ≡ at + n) × (e ≡ placed d at ys)

module _ {A : Type 0} (d : List A) (at : ℕ) where
  -- the first piece, and one more
  pub first : (ys : List A) (n : ℕ) {e : List A} {k : ℕ} → length ys ≡ n → Puts d at ys n e k → Put d at ys n e k
  first ys n l p = record { long = l; is = p.1; end = p.0 }

  pub piece : (xs : List A) (m : ℕ) {e : List A} {k : ℕ} → Put d at xs m e k → (ys : List A) (n : ℕ) {f : List A} {r : ℕ} → length ys ≡ n → at + (m + n) ≤ length d → Puts e k ys n f r → Put d at (xs ++ ys) (m + n) f r
  piece xs m {e} {k} q ys n l h p =
      let a = q.long in
      let b = q.end in
      record {
        long = length-append xs ys ∙ ap₂ ◌+◌ a l;
        is = p.1 ∙ ap₂ (λ x y. placed x y ys) q.is (b ∙ ap (λ y. at + y) (omega arith)) ∙ placed_then d at xs ys (omega arith);
        end = let c = p.0 in omega arith;
      }

  -- all of them, under another name
  pub whole : (xs ys : List A) (m : ℕ) {e : List A} {k : ℕ} → Put d at xs m e k → xs ≡ ys → Puts d at ys m e k
  whole xs ys m q e = (q.end, q.is ∙ ap (placed d at) e)

-- nothing yet; the same under another name; and the length stays
module _ {A : Type 0} (d : List A) (at : ℕ) where
  pub none : Put d at [] 0 d at
  none = record { long = refl; is = sym (placed-none d at); end = omega arith }

  pub same : {xs ys : List A} {m n : ℕ} {e : List A} {k : ℕ} → xs ≡ ys → m ≡ n → Put d at xs m e k → Put d at ys n e k
  same p q r = rw (p, q) at r

  pub put-length : {xs : List A} {m : ℕ} {e : List A} {k : ℕ} → Put d at xs m e k → at + m ≤ length d → length e ≡ length d
  put-length {xs} q h = ap length q.is ∙ length-placed d at xs (let l = q.long in omega arith)
