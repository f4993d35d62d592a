-- I.5.3.6: the definitions of a list that is kept in the file.
use Rattle.std.specs.Prelude.{ℕ, zero, suc, ◌*◌, List, [], ◌∷◌, ◌++◌, length}
use Rattle.box_number.specs.Table.{Test, ◌≠?◌, ◌<?◌, ◌or◌, ◌and◌}
use Rattle.box_number.specs.Number.{lies_outside}
use Rattle.read_record.specs.declared.Span.{Span}
use Rattle.read_channels.specs.Cdef.{Cn, Typ, Asoc}

-- a definition: its channel (Cn), its type (Typ) and its association (Asoc)
pub record Def : Type 0 where
  pub channel : ℕ
  pub typ : ℕ
  pub asoc : ℕ

abbrev pub def : ℕ → ℕ → ℕ → Def
def channel typ asoc = record { channel = channel; typ = typ; asoc = asoc }

-- definition i of a list that is kept in the file f
abbrev pub definition : List ℕ → Span → ℕ → Def
definition f l i = def (Cn f l i) (Typ f l i) (Asoc f l i)

-- the first n of them
unfoldable pub definitions_to : List ℕ → Span → ℕ → List Def
definitions_to f l zero = []
definitions_to f l (suc n) = definitions_to f l n ++ (definition f l n ∷ [])

abbrev pub definitions : List ℕ → Span → List Def
definitions f l = definitions_to f l l.count

-- 29: a definition list that the reader of cdef never gives, or that does not lie in the file; one of no definitions is none, wherever its place is
abbrev pub definitions_outside : List ℕ → Span → Test
definitions_outside f l = l.count ≠? 0 and (65535 <? l.count or lies_outside (length f) l.place (6 * l.count))
