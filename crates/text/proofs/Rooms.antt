-- The length of a list of equal elements, into which a program reads: a law at a variable, so that nothing writes the list out.
-- And what such a list begins with after a read at a place.
-- Assumes nothing.
use Rattle.std.proofs.Common.{◌≡◌, ℕ, ◌+◌, ◌≤◌, List, ◌++◌, length, take, drop, sym, ap, ◌∙◌, arith, take-add, drop_at, length-take-le}
use lib.ListN.{replicate, length-replicate}
use lib.Seq.{take-append-le}
use borrow.Rule.Slice.PartMut.{put_mid, post_of}
use Rattle.std.proofs.lemmas.Slice.{take-put_mid_below}

pub long : {A : Type 0} (n : ℕ) (a : A) → n ≡ length (replicate n a)
long n a = sym (length-replicate n a)

pub take-put : {A : Type 0} (at k n : ℕ) (xs ys : List A) → at ≤ length xs → n ≤ length ys → take (at + n) (put_mid at k xs ys) ≡ take at xs ++ take n ys
take-put at k n xs ys h f =
    let z = put_mid at k xs ys in
    take-add at n z ∙ ap (λ l. l ++ take n (drop at z)) (take-put_mid_below at k xs ys at (omega arith) h) ∙ ap (λ l. take at xs ++ take n l) (drop_at (take at xs) (ys ++ post_of at k xs) at (length-take-le at xs h)) ∙ ap (λ l. take at xs ++ l) (take-append-le n ys (post_of at k xs) f)
