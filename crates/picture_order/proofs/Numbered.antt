-- The numbers of the records, one after the other: two records that change places, and one that is marked, there and in the list of numbers.
-- Assumes nothing.
use Prim.Native.Nat.{ℕ, zero, suc, ◌+◌, ◌*◌, ◌<◌}
use mathlib.Core.Path.{◌≡◌, refl, ap, sym, ◌∙◌}
use mathlib.Core.List.{List, [], ◌∷◌, ◌++◌}
use native.Mathlib.Omega.{arith}
use lib.ListN.{length, get_or, set, length-append, get_or-append, get_or-replicate}
use lib.Seq.{get_or-append-add}
use Rattle.std.specs.List.{swap}
use Rattle.picture_rules.specs.Order.{exchange}
use Rattle.picture_order.specs.Flat.{number_at}
use Rattle.picture_order.specs.Private.Steps.{Exchanged}
use Rattle.picture_order.specs.Comps.{no_record, numbers_of, numbered}
use Rattle.picture_order.specs.declared.lent.Comp.{Comp}
use Rattle.picture_order.proofs.Swapping.{get_or-swap}

pub numbered-length : (cs : List Comp) → length (numbered cs) ≡ 13 * length cs
unfolding numbered
numbered-length [] = refl
numbered-length (c ∷ cs) = rw length-append (omega (arith, numbered-length cs))

-- number k of record r
pub numbered-at : (cs : List Comp) (r k : ℕ) → k < 13 → number_at (numbered cs) r k ≡ get_or (numbers_of (get_or cs r no_record)) k 0
unfolding numbered
numbered-at [] r k h = sym (get_or-replicate 13 k 0 0 h)
numbered-at (c ∷ cs) zero k h =
    let e : 13 * zero + k ≡ k = omega arith in
    ap (λ i. get_or (numbers_of c ++ numbered cs) i 0) e ∙ get_or-append (numbers_of c) (numbered cs) 0 k h
numbered-at (c ∷ cs) (suc r) k h =
    let e : 13 * suc r + k ≡ 13 + (13 * r + k) = omega arith in
    ap (λ i. get_or (numbers_of c ++ numbered cs) i 0) e ∙ get_or-append-add (numbers_of c) (numbered cs) (13 * r + k) 0 ∙ numbered-at cs r k h

pub swap-numbered : (l : List Comp) (p q : ℕ) → p < length l → q < length l → Exchanged p q (numbered l) (numbered (swap l p q))
swap-numbered l p q hp hq =
    λ r k h. numbered-at (swap l p q) r k h ∙ ap (λ c. get_or (numbers_of c) k 0) (get_or-swap no_record l p q r hp hq) ∙ sym (numbered-at l (exchange p q r) k h)

abbrev with-alpha : Comp → ℕ → Comp
with-alpha c t = record { dx = c.dx; dy = c.dy; w = c.w; h = c.h; x0 = c.x0; y0 = c.y0; prec = c.prec; bpp = c.bpp; sgnd = c.sgnd; resno_decoded = c.resno_decoded; factor = c.factor; «data» = c.«data»; alpha = t }

pub marked-numbered : (l : List Comp) (p t : ℕ) → p < length l → numbered (set l p (with-alpha (get_or l p no_record) t)) ≡ set (numbered l) (13 * p + 12) t
unfolding numbered
marked-numbered [] p t h = absurd (omega arith)
marked-numbered (c ∷ l) zero t h = refl
marked-numbered (c ∷ l) (suc p) t h =
    let e : 13 * suc p + 12 ≡ suc (suc (suc (suc (suc (suc (suc (suc (suc (suc (suc (suc (suc (13 * p + 12))))))))))))) = omega arith in
    ap (λ x. numbers_of c ++ x) (marked-numbered l p t (omega arith)) ∙ sym (ap (λ i. set (numbers_of c ++ numbered l) i t) e)
