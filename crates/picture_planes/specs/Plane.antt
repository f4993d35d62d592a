-- Planes of samples in a list.
use Rattle.std.specs.Prelude.{ℕ, List, ℤ, length, take, drop}
use Rattle.box_number.specs.Table.{Test, ◌or◌}
use Rattle.box_number.specs.Number.{lies_outside}

-- the n samples from a place on
abbrev pub samples_of : List ℤ → ℕ → ℕ → List ℤ
samples_of s from n = take n (drop from s)

-- n samples do not lie in src from a place on, or have no room at their place of d
abbrev pub samples_outside : List ℤ → ℕ → ℕ → List ℤ → ℕ → Test
samples_outside src from n d at = lies_outside (length src) from n or lies_outside (length d) at n
