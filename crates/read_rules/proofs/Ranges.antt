-- Ranges that end at or before a place, and one of them put anew at or after it.
-- Assumes nothing.
use Prim.Native.Nat.{ℕ, zero, suc, ◌≤◌, ◌<◌}
use mathlib.Core.List.{List, [], ◌∷◌}
use native.Mathlib.Omega.{arith}
use Rattle.read_rules.specs.Range.{Range, range, end, Apart, Inside, ApartFrom, Pairwise}

-- inside the first n bytes, and pairwise apart
abbrev pub Placed : ℕ → List Range → Type 0
Placed n rs = Inside n rs × Pairwise rs

-- the range at place i, or none
abbrev pub nth : ℕ → List Range → Range
nth i [] = range 0 0
nth zero (r ∷ rs) = r
nth (suc i) (r ∷ rs) = nth i rs

-- rs with r at place i
abbrev pub put : ℕ → Range → List Range → List Range
put i r [] = []
put zero r (s ∷ rs) = r ∷ rs
put (suc i) r (s ∷ rs) = s ∷ put i r rs

pub inside-nth : {n : ℕ} (i : ℕ) (rs : List Range) → Inside n rs → end (nth i rs) ≤ n
inside-nth i [] p = omega arith
inside-nth zero (r ∷ rs) p = omega (arith, p.0)
inside-nth (suc i) (r ∷ rs) p = inside-nth i rs p.1

from-nth : (r : Range) (i : ℕ) (rs : List Range) → ApartFrom r rs → Apart r (nth i rs)
from-nth r i [] p = λ k x y. omega arith
from-nth r zero (s ∷ rs) p = p.0
from-nth r (suc i) (s ∷ rs) p = from-nth r i rs p.1

pub apart-nth : (i k : ℕ) (rs : List Range) → Pairwise rs → i < k → Apart (nth i rs) (nth k rs)
apart-nth i k [] p h = λ n x y. omega arith
apart-nth i zero (r ∷ rs) p h = absurd (omega arith)
apart-nth zero (suc k) (r ∷ rs) p h = from-nth r k rs p.0
apart-nth (suc i) (suc k) (r ∷ rs) p h = apart-nth i k rs p.1 (omega arith)

inside-later : {a b : ℕ} (rs : List Range) → a ≤ b → Inside a rs → Inside b rs
inside-later [] l p = tt
inside-later (r ∷ rs) l p = (omega (arith, p.0), inside-later rs l p.1)

pub placed-later : {a b : ℕ} (rs : List Range) → a ≤ b → Placed a rs → Placed b rs
placed-later rs l p = (inside-later rs l p.0, p.1)

apart-all : (r : Range) (rs : List Range) → Inside r.place rs → ApartFrom r rs
apart-all r [] p = tt
apart-all r (s ∷ rs) p = ((λ i h k. omega (arith, p.0)), apart-all r rs p.1)

-- ranges without a byte
pub placed-none : (rs : List Range) → Inside 0 rs → Placed 0 rs
placed-none [] p = (tt, tt)
placed-none (r ∷ rs) p = (p, (apart-all r rs (inside-later rs (omega arith) p.1), (placed-none rs p.1).1))

-- one of them put anew without a byte
from_empty : (rs : List Range) → ApartFrom (range 0 0) rs
from_empty [] = tt
from_empty (s ∷ rs) = ((λ k x y. omega arith), from_empty rs)

apart-empty : (i : ℕ) (s : Range) (rs : List Range) → ApartFrom s rs → ApartFrom s (put i (range 0 0) rs)
apart-empty i s [] p = tt
apart-empty zero s (t ∷ rs) p = ((λ k x y. omega arith), p.1)
apart-empty (suc i) s (t ∷ rs) p = (p.0, apart-empty i s rs p.1)

pub placed-empty : (n i : ℕ) (rs : List Range) → Placed n rs → Placed n (put i (range 0 0) rs)
placed-empty n i [] p = (tt, tt)
placed-empty n zero (s ∷ rs) p = ((omega arith, p.0.1), (from_empty rs, p.1.1))
placed-empty n (suc i) (s ∷ rs) p = let q = placed-empty n i rs (p.0.1, p.1.1) in ((p.0.0, q.0), (apart-empty i s rs p.1.0, q.1))

-- a is a place, and r a range from there on, up to b
module _ (a b : ℕ) (r : Range) (l : a ≤ b) (from : a ≤ r.place) (to : end r ≤ b) where
  apart-put : (i : ℕ) (s : Range) (rs : List Range) → end s ≤ a → ApartFrom s rs → ApartFrom s (put i r rs)
  apart-put i s [] h p = tt
  apart-put zero s (t ∷ rs) h p = ((λ i x y. omega arith), p.1)
  apart-put (suc i) s (t ∷ rs) h p = (p.0, apart-put i s rs h p.1)

  pub placed-put : (i : ℕ) (rs : List Range) → Placed a rs → Placed b (put i r rs)
  placed-put i [] p = (tt, tt)
  placed-put zero (s ∷ rs) p = ((omega arith, inside-later rs l p.0.1), (apart-all r rs (inside-later rs from p.0.1), p.1.1))
  placed-put (suc i) (s ∷ rs) p = let q = placed-put i rs (p.0.1, p.1.1) in ((omega (arith, p.0.0), q.0), (apart-put i s rs p.0.0 p.1.0, q.1))
