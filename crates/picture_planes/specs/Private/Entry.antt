-- For private functions only: a column that is read into a list of samples.
use Rattle.std.specs.Prelude.{◌-◌, List, ℤ, pos, length, get_or}
use Rattle.picture_rules.specs.Samples.{clamped}

-- the entry of a list that a sample picks
abbrev pub entry_for : List ℤ → ℤ → ℤ
entry_for c s = get_or c (clamped s (length c - 1)) (pos 0)
