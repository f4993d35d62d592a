-- Bounds that reading gives, and lists that their own readers take again from the file.
use Rattle.std.specs.Prelude.{ℕ, ◌-◌, ◌≤◌, ◌<◌, ◌≡◌, List, get_or, drop}
use Rattle.read_record.specs.declared.Span.{Span}
use Rattle.read_record.specs.declared.Palette.{Palette}
use Rattle.read_record.specs.declared.Jp2.{Jp2}
use Rattle.read_record.specs.Record.{with_pclr, with_cmap, with_cdef}
use Rattle.read_record.specs.Answer.{accepted}
use Rattle.read_palette.specs.Pclr.{pclr}
use Rattle.read_channels.specs.Cmap.{cmap}
use Rattle.read_channels.specs.Cdef.{cdef}
use Rattle.read_rules.specs.File.{read}
use Rattle.read_rules.specs.Alike.{given}

-- a palette; read from its NE on, three bytes before its Bi, it is taken again
pub record PaletteSound (f : List ℕ) (p : Palette) : Type 0 where
  pub some : 1 ≤ p.entries
  pub most : p.entries ≤ 1024
  pub columns : p.columns ≤ 255
  pub again : (place : ℕ) (k : Jp2) → k.lists.pclr.columns ≡ 0 → pclr place (p.place - 3) (drop (p.place - 3) f) k ≡ accepted (with_pclr p k)

-- mappings, one for each column of the palette
pub record MappingsSound (f : List ℕ) (p : Palette) (l : Span) : Type 0 where
  pub each : l.count ≡ p.columns
  pub again : (place : ℕ) (k : Jp2) → k.lists.pclr.columns ≡ l.count → k.lists.cmap.count ≡ 0 → cmap place l.place (drop l.place f) k ≡ accepted (with_cmap l k)

-- definitions; read from their N on, two bytes before the first, they are taken again
pub record DefinitionsSound (f : List ℕ) (l : Span) : Type 0 where
  pub most : l.count ≤ 65535
  pub again : (place : ℕ) (k : Jp2) → k.lists.cdef.count ≡ 0 → cdef place (l.place - 2) (drop (l.place - 2) f) k ≡ accepted (with_cdef l k)

-- flags are 0 or 1; the Lab numbers are none, 8 or 9; a list is sound where there is one
pub record Sound (f : List ℕ) (m : Jp2) : Type 0 where
  pub components : m.image.numcomps ≤ 16384
  pub held : m.colour.held ≤ 1
  pub lab : (m.colour.lab.count ≡ 0 → ⊥) → (m.colour.lab.count ≡ 8 → ⊥) → m.colour.lab.count ≡ 9
  pub palette : (m.lists.pclr.columns ≡ 0 → ⊥) → PaletteSound f m.lists.pclr
  pub mappings : (m.lists.cmap.count ≡ 0 → ⊥) → MappingsSound f m.lists.pclr m.lists.cmap
  pub definitions : (m.lists.cdef.count ≡ 0 → ⊥) → DefinitionsSound f m.lists.cdef
  pub hasjp2h : m.status.hasjp2h ≤ 1
  pub hasihdr : m.status.hasihdr ≤ 1

-- of a file of bytes that is read to a record, the record is sound
abbrev pub RecordSound : Type 0
RecordSound = (f : List ℕ) (m : Jp2) → ((i : ℕ) → get_or f i 0 < 256) → given (read f) ≡ accepted m → Sound f m
