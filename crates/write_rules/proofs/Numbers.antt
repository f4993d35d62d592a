-- Numbers in bytes, one after the other.
-- Assumes nothing.
use Prim.Native.Nat.{ℕ, zero, suc, ◌+◌, ◌^◌, ◌≤◌, ◌<◌}
use mathlib.Core.Path.{◌≡◌, refl, sym, ap, ◌∙◌}
use mathlib.Core.List.{List, [], ◌++◌, append-nil}
use native.Mathlib.Nat.{mod-eq_of_lt, add_assoc, zero-add}
use native.Mathlib.Omega.{arith}
use lib.ListN.{length, length-append}
use lib.Seq.{drop_at, get_or-append-add}
use Rattle.box_number.specs.Number.{number, bytes, placed, written}
use Rattle.box_number.proofs.Bytes.{length-bytes, written-fits, number_read_back}

-- a number in the first bytes, which hold it
pub number-here : (w v : ℕ) (c : List ℕ) → w ≤ 4 → v < 256 ^ w → number (bytes w v ++ c) 0 w ≡ v
unfolding placed
number-here w v c l h =
    let d = bytes w v ++ c in
    let b : length (bytes w v) ≡ w = length-bytes w v in
    let room : 0 + w ≤ length d = simp (length-append, length-bytes) (omega arith) in
    let same : written d 0 w v ≡ d = written-fits d 0 w v l room ∙ rw (b, zero-add) (ap (λ (x : List ℕ). bytes w v ++ x) (drop_at (bytes w v) c w b)) in
    ap (λ (x : List ℕ). number x 0 w) (sym same) ∙ number_read_back d 0 w v l room ∙ mod-eq_of_lt h

pub number-last : (w v : ℕ) → w ≤ 4 → v < 256 ^ w → number (bytes w v) 0 w ≡ v
number-last w v l h = rw append-nil at (number-here w v [] l h)

-- a number after other bytes
pub number-after : (p c : List ℕ) (i n : ℕ) → number (p ++ c) (length p + i) n ≡ number c i n
unfolding number
number-after p c i zero = refl
number-after p c i (suc n) = rw (number-after p c i n, add_assoc (length p) i n, get_or-append-add p c (i + n) 0)

-- after another number
pub number-next : (w v : ℕ) (c : List ℕ) (i n : ℕ) → number (bytes w v ++ c) (w + i) n ≡ number c i n
number-next w v c i n = rw length-bytes at (number-after (bytes w v) c i n)
