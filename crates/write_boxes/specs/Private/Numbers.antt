-- For private functions only: numbers that are written one after the other, each with its count of bytes.
use Rattle.std.specs.Prelude.{ℕ, Bool, List, [], ◌++◌, fold, nat_lt}
use Rattle.std.specs.List.{list_all, sum_by}
use Rattle.box_number.specs.Number.{bytes}

-- each has at most 4 bytes
abbrev pub narrow : List (ℕ × ℕ) → Bool
narrow numbers = list_all (λ n. nat_lt n.0 5) numbers

-- the bytes of all
abbrev pub width : List (ℕ × ℕ) → ℕ
width numbers = sum_by (λ n. n.0) numbers

abbrev pub joined : List (ℕ × ℕ) → List ℕ
joined numbers = fold (λ xs n. xs ++ bytes n.0 n.1) [] numbers
