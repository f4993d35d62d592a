-- The 44 numbers of a file that was broken off.
-- Assumes nothing.
use Prim.Native.Nat.{ℕ, ◌<◌}
use mathlib.Core.Path.{◌≡◌, refl, sym, ap, ◌∙◌}
use mathlib.Core.List.{List}
use native.Mathlib.Omega.{arith}
use lib.ListN.{get_or, set, take}
use lib.Seq.{get_or-take}
use Rattle.box_number.specs.Number.{placed}
use Rattle.read_record.specs.declared.Jp2.{Jp2}
use Rattle.read_record.specs.Record.{blank}
use Rattle.read_jp2h.specs.Split.{Boxes}
use Rattle.read_rules.specs.File.{Walked, ended, read, after}
use Rattle.read_rules.specs.CutTransfers.{CutShort, as_whole, ended_with, four_at}
use Rattle.read_rules.proofs.Cuts.{whatever_was_lost}
use Rattle.export_rules.specs.Places.{kind, value, state, reading_length}
use Rattle.export_rules.specs.Numbers.{numbers}
use Rattle.export_rules.specs.CutTold.{CutTold, CutNumbers, CutTells}
use Rattle.export_rules.proofs.TwoSteps.{reading-given}

pub cut-told : (file old new : List ℕ) → new ≡ placed old 0 (numbers (read file)) → CutTold file old new
cut-told file old new e l = (read file, ap (take reading_length) e ∙ reading-given file old, whatever_was_lost file blank _ refl)

-- a number of a list that begins with those of a reading
first-numbers : (xs : List ℕ) (w : Walked) → take reading_length xs ≡ numbers w → (i : ℕ) → i < reading_length → get_or xs i 0 ≡ get_or (numbers w) i 0
first-numbers xs w e i l = sym (get_or-take reading_length xs i 0 l) ∙ ap (λ (ys : List ℕ). get_or ys i 0) e

module _ (xs : List ℕ) {bs : Boxes} {offset : ℕ} {m : Jp2} {n : ℕ} where
  numbers_tell : (w : Walked) → take reading_length xs ≡ numbers w → CutShort bs blank offset m n w → CutNumbers bs xs offset m n
  unfolding after
  numbers_tell w e (as_whole l) = record { whole = λ h. e; kinds = λ h. absurd (omega arith); number = λ h. absurd (omega arith); fields = λ h. absurd (omega arith) }
  numbers_tell w e (ended_with l k x p q) =
      let is = first-numbers xs w e kind (omega arith) in
      record { whole = λ h. absurd (omega arith); kinds = λ h z. absurd (z is); number = λ h z. absurd (omega arith); fields = λ h z. (k, p, ap (λ (ys : List ℕ). set ys state 0) e ∙ ap (λ (l : Jp2). numbers (ended l)) q.fields) }
  numbers_tell w e (four_at l b p h q) =
      let is = first-numbers xs w e kind (omega arith) in
      record { whole = λ h. absurd (omega arith); kinds = λ h z. is; number = λ h z. first-numbers xs w e value (omega arith); fields = λ h z. absurd (omega arith) }

pub cut-tells : CutTells
cut-tells file old new rest offset m told room reaches =
    let (r, e, lost) = told room in
    numbers_tell new r e (lost rest offset m reaches)
