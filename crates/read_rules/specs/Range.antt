-- Ranges of a file: the place of the first byte, and the number of bytes.
use Rattle.std.specs.Prelude.{ℕ, ◌+◌, ◌≤◌, ◌<◌, List, [], ◌∷◌}

pub record Range : Type 0 where
  pub place : ℕ
  pub size : ℕ

abbrev pub range : ℕ → ℕ → Range
range place size = record { place = place; size = size }

-- the place after the last byte
abbrev pub end : Range → ℕ
end r = r.place + r.size

-- byte i of the file lies in a range
abbrev pub In : ℕ → Range → Type 0
In i r = (r.place ≤ i) × (i < end r)

-- no byte lies in both; so an empty range is apart from every other
abbrev pub Apart : Range → Range → Type 0
Apart r s = (i : ℕ) → In i r → In i s → ⊥

-- every range ends within the first n bytes
abbrev pub Inside : ℕ → List Range → Type 0
Inside n [] = Unit
Inside n (r ∷ rs) = (end r ≤ n) × Inside n rs

abbrev pub ApartFrom : Range → List Range → Type 0
ApartFrom r [] = Unit
ApartFrom r (s ∷ rs) = Apart r s × ApartFrom r rs

-- any two of the ranges are apart
abbrev pub Pairwise : List Range → Type 0
Pairwise [] = Unit
Pairwise (r ∷ rs) = ApartFrom r rs × Pairwise rs
