-- I.5.3.5 and document 01: the channels of a picture. They are the palette's columns where a mapping exists, else the components: a palette without mappings is dropped (difference 33).
use Rattle.std.specs.Prelude.{ℕ, List}
use Rattle.box_number.specs.Table.{Test, ◌=?◌, ◌≠?◌, ◌<?◌, ◌and◌, otherwise, ◌⇒◌∣◌, table}
use Rattle.read_record.specs.declared.Span.{Span}
use Rattle.read_record.specs.declared.Jp2.{Jp2}
use Rattle.read_channels.specs.Cmap.{CMP, MTYP}
use Rattle.box_number.specs.Lowest.{some}

abbrev pub mapped : Jp2 → Test
mapped m = m.lists.cmap.count ≠? 0

-- how many channels a picture of n components has
unfoldable pub channels : Jp2 → ℕ → ℕ
channels m n = table (mapped m ⇒ m.lists.pclr.columns ∣ otherwise n)

-- channel c's component
unfoldable pub component_of : List ℕ → Jp2 → ℕ → ℕ
component_of f m c = table (mapped m ⇒ CMP f m.lists.cmap c ∣ otherwise c)

-- mapping c, from 1 up, is a direct one
abbrev pub direct : List ℕ → Span → ℕ → Test
direct f l c = 0 <? c and MTYP f l c =? 0

-- with one component, a direct mapping of a channel other than 0 makes all mappings palette mappings, each to its own column (difference 22)
abbrev pub corrected : List ℕ → Span → ℕ → Test
corrected f l n = n =? 1 and some (direct f l) l.count

-- channel c's type, of mappings l that are corrected or not: 0 is direct use of its component, 1 the palette's column c
abbrev pub type_by : List ℕ → Span → Test → ℕ → ℕ
type_by f l correct c = table (correct ⇒ 1 ∣ l.count ≠? 0 ⇒ MTYP f l c ∣ otherwise 0)

unfoldable pub type_of : List ℕ → Jp2 → ℕ → ℕ → ℕ
type_of f m n c = type_by f m.lists.cmap (mapped m and corrected f m.lists.cmap n) c
