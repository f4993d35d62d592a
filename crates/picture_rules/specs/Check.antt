-- I.5.3.5, I.5.3.6 and document 01's table: the checks of definitions and mappings. Difference 20: in edition 1 channel 0 may go undefined. Difference 21: a palette mapping names its own column. Difference 41: colour numbers are held against the count of channels.
use Rattle.std.specs.Prelude.{ℕ, ◌+◌, List}
use Rattle.box_number.specs.Table.{Test, ◌=?◌, ◌≠?◌, ◌<?◌, ◌or◌, ◌and◌}
use Rattle.read_record.specs.declared.Span.{Span}
use Rattle.read_channels.specs.Cmap.{CMP, MTYP, PCOL}
use Rattle.read_channels.specs.Cdef.{Cn}
use Rattle.read_channels.specs.Definitions.{definition}
use Rattle.picture_rules.specs.Definitions.{misnames}
use Rattle.picture_rules.specs.Edition.{least_counted}
use Rattle.picture_rules.specs.Image.{Image, first, no_data}
use Rattle.box_number.specs.Lowest.{lowest}

-- 25: definition j of a list names a channel, or a colour, that is not below n channels
abbrev pub misnamed : List ℕ → Span → ℕ → ℕ → Test
misnamed f l n j = misnames n (definition f l j)

-- 26: channel c, from the least that the edition counts up, has no definition in a list that has some
abbrev pub undefined : ℕ → List ℕ → Span → ℕ → Test
undefined edition2 f l c = l.count ≠? 0 and least_counted edition2 <? c + 1 and lowest (λ j. Cn f l j =? c) l.count =? l.count

-- 27: mapping c of a list has no component, of n, or is neither a direct one (type 0, column 0) nor one to its own column (type 1, column c)
abbrev pub mismapped : List ℕ → Span → ℕ → ℕ → Test
mismapped f l n c = n <? CMP f l c + 1 or (MTYP f l c ≠? 0 or PCOL f l c ≠? 0) and (MTYP f l c ≠? 1 or PCOL f l c ≠? c)

-- 28: the component of mapping c has no samples
abbrev pub dataless : List ℕ → Span → Image → ℕ → Test
dataless f l i c = first i (CMP f l c) =? no_data
