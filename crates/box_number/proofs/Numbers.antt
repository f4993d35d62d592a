-- Numbers byte by byte, and parts of a list.
-- Assumes nothing.
use Prim.Native.Nat.{ℕ, zero, suc, ◌+◌, ◌-◌, ◌*◌, ◌≤◌}
use native.Mathlib.Nat.{add-zero}
use native.Mathlib.Omega.{arith}
use mathlib.Core.Path.{◌≡◌, refl, sym, ap, ◌∙◌}
use mathlib.Core.List.{List, []}
use lib.ListN.{length, get_or, take, drop, length-take, length-drop, get_or-eq_default, drop_of_length-le}
use lib.Seq.{take_all, take-nil}
use Rattle.box_number.specs.Number.{number, part, least}
use Rattle.box_number.proofs.Rows.{row, each}

-- the lesser of two is the first where that is at most the second, and is at most the second
pub least-low : (n k : ℕ) → n ≤ k → least n k ≡ n
least-low n k h = each (λ (m : ℕ). m ≡ n) _ ((λ l. refl), λ l. omega arith)

pub least-most : {r : ℕ} (n k : ℕ) → r ≡ least n k → r ≤ k
least-most {r} n k e = rw e (each (λ (m : ℕ). m ≤ k) _ ((λ l. omega arith), λ l. omega arith))

module _ (s : List ℕ) where
  pub number-byte : (at : ℕ) → number s at 1 ≡ get_or s at 0
  unfolding number
  number-byte at = rw (add-zero at) (omega arith)

  pub number_suc : (at n : ℕ) → number s at (suc n) ≡ number s at n * 256 + number s (at + n) 1
  unfolding number
  number_suc at n = rw (add-zero (at + n)) (omega arith)

  pub number_past : (at n : ℕ) → length s ≤ at → number s at n ≡ 0
  unfolding number
  number_past at zero h = refl
  number_past at (suc n) h = omega (arith, number_past at n h, get_or-eq_default s 0 {n = at + n} (omega arith))

  -- of more than four bytes the first four count
  pub number_narrow : (at n k : ℕ) {x : ℕ} → n ≡ k → k ≤ 4 → x ≡ number s at k → x ≡ number s at (least n 4)
  number_narrow at n k e h f = f ∙ ap (number s at) (sym (least-low n 4 (omega arith) ∙ e))

  pub number-wide : (at n : ℕ) {x : ℕ} → 4 ≤ n → x ≡ number s at 4 → x ≡ number s at (least n 4)
  number-wide at n h f = f ∙ ap (number s at) (row 1 _ (omega arith) refl)

  pub part_none : (start end : ℕ) → end ≤ start → part s start end ≡ []
  unfolding part
  part_none start end h = let z : end - start ≡ 0 = omega arith in rw z

  pub part-past : (start end : ℕ) → length s ≤ start → part s start end ≡ []
  unfolding part
  part-past start end h = rw (drop_of_length-le s h) (take-nil (end - start))

  -- the rest of a list from a place on, as the code has it
  pub rest-is : (n : ℕ) → take (length s - n) (drop n s) ≡ drop n s
  rest-is n = take_all (length s - n) (drop n s) (rw length-drop (omega arith))

  pub part-over : (start end : ℕ) → length s ≤ end → part s start end ≡ part s start (length s)
  unfolding part
  part-over start end h = take_all (end - start) (drop start s) (rw length-drop (omega arith)) ∙ sym (rest-is start)

  pub part-most : (start end : ℕ) → length (part s start end) ≤ end - start
  unfolding part
  part-most start end = rw length-take (omega arith)
