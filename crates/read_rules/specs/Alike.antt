-- Two files that differ at most in a definition list that is kept there.
use Rattle.std.specs.Prelude.{ℕ, ◌*◌, ◌<◌, ◌≡◌, List, length, get_or}
use Rattle.read_record.specs.declared.Jp2.{Jp2}
use Rattle.read_record.specs.Answer.{Result, accepted, refused}
use Rattle.read_rules.specs.File.{Walked, codestream, ended, file_refused, read}
use Rattle.read_rules.specs.Range.{Range, range, In}

-- g has the length of f and, outside a range, its bytes
pub record Alike (f g : List ℕ) (r : Range) : Type 0 where
  pub long : length g ≡ length f
  pub outside : (i : ℕ) → i < length f → (In i r → ⊥) → get_or g i 0 ≡ get_or f i 0

-- the record to which a file is read, or its refusal
abbrev pub given : Walked → Result
given (codestream offset m) = accepted m
given (ended m) = accepted m
given (file_refused number place) = refused number place

-- the bytes of the definition list: six for each definition
abbrev pub definition_range : Jp2 → Range
definition_range m = range m.lists.cdef.place (6 * m.lists.cdef.count)

-- a file that is read to a record answers the same, offset and record too, whatever bytes that record's definition list has
abbrev pub DefinitionsFree : Type 0
DefinitionsFree = (f g : List ℕ) (m : Jp2) → given (read f) ≡ accepted m → Alike f g (definition_range m) → read g ≡ read f
