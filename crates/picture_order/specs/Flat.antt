-- Records of thirteen numbers in one list, and what the definitions of a file make of it.
use Rattle.std.specs.Prelude.{ℕ, ◌+◌, ◌*◌, List, ◌++◌, ⊤, length, get_or, drop}
use Rattle.box_number.specs.Table.{Test, ◌<?◌, ◌or◌, otherwise, ◌⇒◌∣◌, table}
use Rattle.box_refusal.specs.Told.{Told, accepted, refused}
use Rattle.read_record.specs.declared.Span.{Span}
use Rattle.read_record.specs.Component.{numbers_each, most_components}
use Rattle.read_channels.specs.Definitions.{definitions, definitions_outside}
use Rattle.picture_rules.specs.Order.{arranged}
use Rattle.picture_rules.specs.Flat.{flat}

-- number k of record r
abbrev pub number_at : List ℕ → ℕ → ℕ → ℕ
number_at l r k = get_or l (numbers_each * r + k) 0

-- the list l with its first n records in the order of the definitions, and the rest as it was
unfoldable pub reordered : ℕ → List ℕ → Span → ℕ → List ℕ → List ℕ
reordered edition2 f cdef n l =
    let a = arranged edition2 n (definitions f cdef) (number_at l) in
    flat a.records (numbers_each * n) ++ drop (numbers_each * n) l

-- number 29: too many records, records outside their list, or definitions outside the file
abbrev pub reorder_outside : List ℕ → Span → ℕ → List ℕ → Test
reorder_outside f cdef n l =
    most_components <? n or length l <? numbers_each * n or definitions_outside f cdef

unfoldable pub answered : List ℕ → Span → ℕ → List ℕ → Told ⊤
answered f cdef n l = table (reorder_outside f cdef n l ⇒ refused 29 0 ∣ otherwise (accepted tt))

unfoldable pub afterwards : ℕ → List ℕ → Span → ℕ → List ℕ → List ℕ
afterwards edition2 f cdef n l = table (reorder_outside f cdef n l ⇒ l ∣ otherwise (reordered edition2 f cdef n l))
