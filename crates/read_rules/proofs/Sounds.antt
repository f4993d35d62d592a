-- Every box keeps the record's bounds, and its lists sound.
-- Assumes nothing.
use Prim.Native.Nat.{ℕ, ◌≤◌, ◌<◌}
use mathlib.Core.Path.{◌≡◌, refl}
use mathlib.Core.List.{List}
use native.Mathlib.Omega.{arith}
use lib.ListN.{get_or}
use Rattle.read_record.specs.declared.Span.{Span}
use Rattle.read_record.specs.declared.Palette.{Palette}
use Rattle.read_record.specs.declared.Jp2.{Jp2}
use Rattle.read_record.specs.Record.{blank}
use Rattle.read_rules.specs.Sound.{PaletteSound, MappingsSound, DefinitionsSound, RecordSound}
use Rattle.read_rules.proofs.Parts.{Lies}
use Rattle.read_rules.proofs.Changes.{Marked, Tinted, Change, marked, typed, sized, deep, tinted, cielab, profiled, indexed, mapped, defined, Law}
use Rattle.read_rules.proofs.Definitions.{read-moves}
use Rattle.read_rules.proofs.Again.{number-most, pclr-again, cmap-again, cdef-again}

-- the lists whose count the file gives
record ListsSound (f : List ℕ) (pclr : Palette) (cmap cdef : Span) : Type 0 where
  palette : (pclr.columns ≡ 0 → ⊥) → PaletteSound f pclr
  mappings : (cmap.count ≡ 0 → ⊥) → MappingsSound f pclr cmap
  definitions : (cdef.count ≡ 0 → ⊥) → DefinitionsSound f cdef

-- the four parts of the record that are bounded
abbrev Bounded : List ℕ → Jp2 → Type 0
Bounded f m = (m.image.numcomps ≤ 16384) × Tinted m.colour × ListsSound f m.lists.pclr m.lists.cmap m.lists.cdef × Marked m.status

module _ (f : List ℕ) (b : (i : ℕ) → get_or f i 0 < 256) (start : ℕ) (c : List ℕ) (j : Jp2) (lies : Lies f start c) where
  bounded-change : (m : Jp2) → Change start c j m → Bounded f j → Bounded f m
  bounded-change m (marked s g) p = (p.0, p.1, p.2, g p.3)
  bounded-change m (typed t h) p = p
  bounded-change m (sized i h) p = (h, p.1, p.2, (p.3.0, omega arith))
  bounded-change m deep p = p
  bounded-change m (tinted k g) p = (p.0, g p.1, p.2, p.3)
  bounded-change m (cielab k g) p = (p.0, g p.1, p.2, p.3)
  bounded-change m (profiled k g h) p = (p.0, g p.1, p.2, p.3)
  bounded-change m (indexed z ne most npc room) p = (
    p.0,
    p.1,
    record {
      palette = λ _. record { some = ne; most = omega arith; columns = omega (arith, number-most lies 2 1 b (omega arith)); again = pclr-again lies _ (omega arith) ne most npc room };
      mappings = λ h. absurd (h (omega (arith, (p.2.mappings h).each)));
      definitions = p.2.definitions;
    },
    p.3,
  )
  bounded-change m (mapped some h) p = (p.0, p.1, record { palette = p.2.palette; mappings = λ _. record { each = refl; again = cmap-again lies _ some h }; definitions = p.2.definitions }, p.3)
  bounded-change m (defined z n h) p = (
    p.0,
    p.1,
    record {
      palette = p.2.palette;
      mappings = p.2.mappings;
      definitions = λ _. record { most = omega (arith, number-most lies 0 2 b (omega arith)); again = cdef-again lies _ (omega arith) n h };
    },
    p.3,
  )

bounded : (f : List ℕ) → ((i : ℕ) → get_or f i 0 < 256) → Law f (λ _ m. Bounded f m)
bounded f b = record { later = λ _ _ _ p. p; change = λ start c j m lies h p. bounded-change f b start c j lies m h p }

blank-bounded : (f : List ℕ) → Bounded f blank
blank-bounded f = (omega arith, (omega arith, λ x y. absurd (x refl)), record { palette = λ h. absurd (h refl); mappings = λ h. absurd (h refl); definitions = λ h. absurd (h refl) }, omega arith)

pub record_sound : RecordSound
record_sound f m b e =
    let p = (read-moves (bounded f b) m e).keeps (blank-bounded f) in
    record {
      components = omega (arith, p.0);
      held = p.1.0;
      lab = λ x y. omega (arith, p.1.1 x y);
      palette = p.2.palette;
      mappings = p.2.mappings;
      definitions = p.2.definitions;
      hasjp2h = p.3.0;
      hasihdr = p.3.1;
    }
