-- For private functions only: where lists lie, and what the marks of channels say.
use Rattle.std.specs.Prelude.{ℕ, ◌+◌, ◌*◌, ◌≤◌, ◌<◌, ◌≡◌, Bool, false, not, List, length, get_or}
use Rattle.box_number.specs.Table.{Test, ◌=?◌, ◌<?◌, flag, ◌and◌, holds}
use Rattle.read_record.specs.declared.Span.{Span}
use Rattle.read_channels.specs.Cdef.{Cn}
use Rattle.box_number.specs.Lowest.{some}
use Rattle.picture_rules.specs.Image.{most_components}

-- a list of elements of the given size lies in f, where it has any
abbrev pub ListInside : ℕ → List ℕ → Span → Type 0
ListInside size f l = 0 < l.count → l.place + size * l.count ≤ length f

-- channel c's mark after the first n definitions: whether one of them names it
abbrev pub seen_after : List ℕ → Span → ℕ → ℕ → Bool
seen_after f l n c = holds (some (λ j. Cn f l j =? c) n)

-- channel c, from the least that is counted up, has no mark
abbrev pub unmarked : ℕ → List Bool → ℕ → Test
unmarked least seen c = least <? c + 1 and flag (not (get_or seen c false))

-- the definitions lie in f and name channels that have a place in a list of marks, none of which is set yet
pub record Markable (f : List ℕ) (l : Span) (seen : List Bool) : Type 0 where
  pub inside : ListInside 6 f l
  pub within : (j : ℕ) → j < l.count → Cn f l j < length seen
  pub blank : (c : ℕ) → get_or seen c false ≡ false

-- the definitions lie in f and name channels below k, of which there are few enough
pub record Named (f : List ℕ) (l : Span) (k : ℕ) : Type 0 where
  pub inside : ListInside 6 f l
  pub below : (j : ℕ) → j < l.count → Cn f l j < k
  pub most : k ≤ most_components
