-- The lists that a record keeps in the file lie in it, and apart from each other: the bytes of one are not the bytes of another.
use Rattle.std.specs.Prelude.{ℕ, ◌+◌, ◌*◌, ◌≡◌, List, [], ◌∷◌, length}
use Rattle.read_record.specs.declared.Span.{Span}
use Rattle.read_record.specs.declared.Palette.{Palette}
use Rattle.read_record.specs.declared.Jp2.{Jp2}
use Rattle.read_record.specs.Answer.{accepted}
use Rattle.read_palette.specs.Pclr.{row_size}
use Rattle.read_rules.specs.File.{read}
use Rattle.read_rules.specs.Range.{Range, range, Inside, Pairwise}
use Rattle.read_rules.specs.Alike.{given}

-- a list of entries, each of the given count of bytes
abbrev pub entries : ℕ → Span → Range
entries width l = range l.place (width * l.count)

-- a palette: a Bi for each column, then the rows
abbrev pub rows : List ℕ → Palette → Range
rows f p = range p.place (p.columns + p.entries * row_size f p)

-- compatibility list, depths, profile, palette, mappings, definitions
abbrev pub kept : List ℕ → Jp2 → List Range
kept f m =
    let l = m.lists in
    entries 4 l.cl ∷ entries 1 l.bpcc ∷ entries 1 l.icc ∷ rows f l.pclr ∷ entries 4 l.cmap ∷ entries 6 l.cdef ∷ []

-- of a file that is read to a record, all lists of the record lie inside the file and pairwise apart
abbrev pub ListsApart : Type 0
ListsApart = (f : List ℕ) (m : Jp2) → given (read f) ≡ accepted m → Inside (length f) (kept f m) × Pairwise (kept f m)
