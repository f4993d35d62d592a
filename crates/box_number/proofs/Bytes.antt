-- The bytes of a number, placed in a list and read back.
-- Assumes nothing.
use Prim.Native.Nat.{ℕ, zero, suc, ◌+◌, ◌-◌, ◌*◌, ◌/◌, ◌%◌, ◌^◌, ◌≤◌, ◌<◌}
use native.Mathlib.Nat.{mod-one, pow-suc, one-le-pow, div-add-mod', mod-lt, mod-eq_of_lt, mul-add-mod_self_right}
use native.Mathlib.Omega.{arith}
use mathlib.Core.Path.{◌≡◌, refl, sym, ap, subst, ◌∙◌}
use mathlib.Core.List.{List, ◌∷◌, ◌++◌, append_assoc}
use lib.ListN.{length, take, drop, set, length-append}
use lib.Seq.{get_or_at, length-take-le}
use Rattle.box_number.specs.Number.{number, bytes, placed, written, NumberReadBack}
use Rattle.box_number.proofs.Rows.{row}
use Rattle.box_number.proofs.Placing.{length-placed, placed-last, placed_then}

pub length-bytes : (n v : ℕ) → length (bytes n v) ≡ n
unfolding bytes
length-bytes zero v = refl
length-bytes (suc n) v = let e = length-bytes n (v / 256) in simp length-append (omega arith)

-- the bytes of a number, its lowest first
pub placed-low : (d : List ℕ) (at left v : ℕ) → 0 < left → at + left ≤ length d → placed (set d (at + (left - 1)) (v % 256)) at (bytes (left - 1) (v / 256)) ≡ placed d at (bytes left v)
unfolding bytes
placed-low d at zero v p h = absurd (omega arith)
placed-low d at (suc n) v p h =
    let e : suc n - 1 ≡ n = omega arith in
    let l = length-bytes n (v / 256) in
    rw e (rw l at (placed-last d at (bytes n (v / 256)) (v % 256) (omega arith)))

-- a number that has room is placed
pub written-fits : (d : List ℕ) (at n v : ℕ) → n ≤ 4 → at + n ≤ length d → written d at n v ≡ placed d at (bytes n v)
unfolding written
written-fits d at n v w h = sym (row 1 _ (omega arith) refl)

-- e is d with xs, f is e with a number after xs
pub written_next : (d : List ℕ) (at : ℕ) (xs : List ℕ) (n v : ℕ) {e f : List ℕ} → n ≤ 4 → at + (length xs + n) ≤ length d → e ≡ placed d at xs
    → f ≡ written e (at + length xs) n v → f ≡ placed d at (xs ++ bytes n v)
written_next d at xs n v {e} {f} w h p q =
    let k = at + length xs in
    let b = length-bytes n v in
    let l : length e ≡ length d = ap length p ∙ length-placed d at xs (omega arith) in
    q ∙ written-fits e k n v w (omega arith) ∙ ap (λ (x : List ℕ). placed x k (bytes n v)) p ∙ placed_then d at xs (bytes n v) (omega arith)

mod_step : (v p : ℕ) → 0 < p → v / 256 % p * 256 + v % 256 ≡ v % (p * 256)
mod_step v p h =
    let q = v / 256 in
    let e : q / p * (p * 256) + (q % p * 256 + v % 256) ≡ v = omega (arith, div-add-mod' q p, div-add-mod' v 256) in
    let l : q % p * 256 + v % 256 < p * 256 = omega (arith, mod-lt q h, mod-lt v {m = 256} (omega arith)) in
    sym (ap (λ (x : ℕ). x % (p * 256)) (sym e) ∙ mul-add-mod_self_right (q / p) (p * 256) (q % p * 256 + v % 256) ∙ mod-eq_of_lt l)

number-bytes : (p q : List ℕ) (n v : ℕ) → number (p ++ bytes n v ++ q) (length p) n ≡ v % 256 ^ n
unfolding number bytes
number-bytes p q zero v = sym (mod-one v)
number-bytes p q (suc n) v =
    let e : (p ++ bytes (suc n) v ++ q) ≡ p ++ bytes n (v / 256) ++ (v % 256 ∷ q) = simp append_assoc in
    let l : length (p ++ bytes n (v / 256)) ≡ length p + n = simp (length-append, length-bytes) in
    let g : number (p ++ bytes n (v / 256) ++ (v % 256 ∷ q)) (length p) (suc n) ≡ v % 256 ^ suc n = rw (number-bytes p (v % 256 ∷ q) n (v / 256), get_or_at (p ++ bytes n (v / 256)) (v % 256) q 0 (length p + n) l, pow-suc) (mod_step v (256 ^ n) (one-le-pow n 256 (omega arith))) in
    subst (λ (x : List ℕ). number x (length p) (suc n) ≡ v % 256 ^ suc n) (sym e) g

pub number_read_back : NumberReadBack
unfolding placed
number_read_back d at n v w h =
    let l : length (take at d) ≡ at = length-take-le at d (omega arith) in
    let r = number-bytes (take at d) (drop (at + length (bytes n v)) d) n v in
    ap (λ (x : List ℕ). number x at n) (written-fits d at n v w h) ∙ rw l at r
