-- Palette, mappings and profile are the same whatever bytes the definition list has.
use Rattle.std.specs.Prelude.{ℕ, ◌+◌, ◌<◌, ◌≡◌, List}
use Rattle.box_number.specs.Number.{part}
use Rattle.read_record.specs.declared.Jp2.{Jp2}
use Rattle.read_record.specs.Answer.{accepted}
use Rattle.read_palette.specs.Pclr.{B, Cji}
use Rattle.read_channels.specs.Cmap.{CMP, MTYP, PCOL}
use Rattle.read_rules.specs.File.{read}
use Rattle.read_rules.specs.Alike.{Alike, given, definition_range}

-- where f is read to a record, and g differs from f at most in that record's definition list, something is the same in both
abbrev pub Free : (List ℕ → List ℕ → Jp2 → Type 0) → Type 0
Free Same = (f g : List ℕ) (m : Jp2) → given (read f) ≡ accepted m → Alike f g (definition_range m) → Same f g m

-- every Bi, and every entry Cji
pub record SamePalette (f g : List ℕ) (m : Jp2) : Type 0 where
  pub bits : (i : ℕ) → i < m.lists.pclr.columns → B g m.lists.pclr i ≡ B f m.lists.pclr i
  pub entry : (j i : ℕ) → j < m.lists.pclr.entries → i < m.lists.pclr.columns → Cji g m.lists.pclr j i ≡ Cji f m.lists.pclr j i

-- every mapping's three fields
pub record SameMappings (f g : List ℕ) (m : Jp2) : Type 0 where
  pub component : (i : ℕ) → i < m.lists.cmap.count → CMP g m.lists.cmap i ≡ CMP f m.lists.cmap i
  pub type : (i : ℕ) → i < m.lists.cmap.count → MTYP g m.lists.cmap i ≡ MTYP f m.lists.cmap i
  pub column : (i : ℕ) → i < m.lists.cmap.count → PCOL g m.lists.cmap i ≡ PCOL f m.lists.cmap i

-- the bytes of the profile
abbrev pub profile : List ℕ → Jp2 → List ℕ
profile f m = part f m.lists.icc.place (m.lists.icc.place + m.lists.icc.count)

-- the palette
abbrev pub PaletteFree : Type 0
PaletteFree = Free SamePalette

-- the mappings
abbrev pub MappingsFree : Type 0
MappingsFree = Free SameMappings

-- the ICC profile
abbrev pub ProfileFree : Type 0
ProfileFree = Free (λ f g m. profile g m ≡ profile f m)
