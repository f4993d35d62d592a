-- Samples that take the place of others in a list.
-- Assumes nothing.
use Rattle.std.proofs.Common.{◌≡◌, ℕ, ◌+◌, ◌-◌, List, ◌++◌, length, take, drop, ap, append_assoc, arith}
use borrow.Rule.Slice.PartMut.{put_mid}
use lib.Seq.{drop-drop}
use Rattle.box_number.specs.Number.{placed}

pub put_placed : {A : Type 0} (d : List A) (at n : ℕ) (xs : List A) → length xs ≡ at + n - at → put_mid at (at + n - at) d xs ≡ placed d at xs
unfolding placed
put_placed d at n xs h = simp (drop-drop, append_assoc) (ap (λ k. take at d ++ (xs ++ drop k d)) (omega arith))
