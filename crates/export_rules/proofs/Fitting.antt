-- A record that is read from bytes has a palette's sizes in 32 bits, also where there is no palette.
-- Assumes nothing.
use Prim.Native.Nat.{ℕ, ◌≤◌}
use mathlib.Core.Path.{◌≡◌}
use mathlib.Core.List.{List}
use native.Mathlib.Omega.{arith}
use Rattle.read_record.specs.declared.Jp2.{Jp2}
use Rattle.read_record.specs.Answer.{accepted}
use Rattle.read_rules.specs.File.{read}
use Rattle.read_rules.specs.Alike.{given}
use Rattle.read_rules.proofs.Parts.{Lies}
use Rattle.read_rules.proofs.Changes.{Change, marked, typed, sized, deep, tinted, cielab, profiled, indexed, mapped, defined, Law}
use Rattle.read_rules.proofs.Definitions.{read-moves}
use Rattle.read_rules.proofs.Again.{number-most}
use Rattle.export_rules.specs.FinishReading.{largest}
use Rattle.export_rules.specs.TwoSteps.{FileOfBytes}

-- as the record's fields have them
pub record Fits (m : Jp2) : Type 0 where
  pub entries : m.lists.pclr.entries ≤ largest
  pub columns : m.lists.pclr.columns ≤ largest

module _ (f : List ℕ) (b : FileOfBytes f) (start : ℕ) (c : List ℕ) (j : Jp2) (lies : Lies f start c) where
  change : (m : Jp2) → Change start c j m → Fits j → Fits m
  change m (marked s g) p = record { entries = p.entries; columns = p.columns }
  change m (typed t h) p = record { entries = p.entries; columns = p.columns }
  change m (sized i h) p = record { entries = p.entries; columns = p.columns }
  change m deep p = record { entries = p.entries; columns = p.columns }
  change m (tinted k g) p = record { entries = p.entries; columns = p.columns }
  change m (cielab k g) p = record { entries = p.entries; columns = p.columns }
  change m (profiled k g h) p = record { entries = p.entries; columns = p.columns }
  change m (indexed z ne most npc room) p = record { entries = omega arith; columns = omega (arith, number-most lies 2 1 b (omega arith)) }
  change m (mapped some h) p = record { entries = p.entries; columns = p.columns }
  change m (defined z n h) p = record { entries = p.entries; columns = p.columns }

law : (f : List ℕ) → FileOfBytes f → Law f (λ _ m. Fits m)
law f b = record { later = λ _ _ _ p. p; change = λ start c j m lies h p. change f b start c j lies m h p }

pub fits : (f : List ℕ) (m : Jp2) → FileOfBytes f → given (read f) ≡ accepted m → Fits m
fits f m b e = (read-moves (law f b) m e).keeps (record { entries = omega arith; columns = omega arith })
