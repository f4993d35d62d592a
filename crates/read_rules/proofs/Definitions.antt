-- A file is read the same whatever bytes its definition list has; and the places that reading answers.
-- Assumes nothing.
use Prim.Native.Nat.{ℕ}
use mathlib.Core.Path.{◌≡◌, refl, sym, ap, subst}
use mathlib.Core.List.{List}
use native.Mathlib.Omega.{arith}
use lib.ListN.{length}
use Rattle.box_number.specs.Table.{◌=?◌, otherwise, ◌⇒◌∣◌}
use Rattle.box_number.proofs.Rows.{row, each}
use Rattle.read_record.specs.declared.Jp2.{Jp2}
use Rattle.read_record.specs.Record.{blank}
use Rattle.read_record.specs.Answer.{accepted}
use Rattle.read_rules.specs.File.{Walked, codestream, ended, file_refused, walk, read}
use Rattle.read_rules.specs.Alike.{given, DefinitionsFree}
use Rattle.read_rules.specs.Apart.{entries}
use Rattle.read_rules.specs.Places.{PlacesWithin, NumbersWithin, TooLong}
use Rattle.read_rules.proofs.Parts.{AlikeFrom, lies_whole, alike-whole, equal-apart}
use Rattle.read_rules.proofs.Changes.{Law}
use Rattle.read_rules.proofs.Local.{free, Moves, Refuses, refuses, later, Reads}
use Rattle.read_rules.proofs.Walks.{heard, file-reads}

pub too_long : TooLong
unfolding walk
too_long f j h = sym (row 0 _ (omega arith) refl)

-- what reading f does to a record
pub walk-reads : {f : List ℕ} {P : ℕ → Jp2 → Type 0} → Law f P → (j : Jp2) → Reads P (heard (length f) 0 j) 0 f j (walk f j)
unfolding walk
walk-reads {f} {P} law j = each (Reads P (heard (length f) 0 j) 0 f j) _ ((λ h. refuses (omega arith) (omega arith) (omega arith)), λ _. file-reads law (length f) 0 f j (lies_whole f))

-- the record that f is read to from the one before any box
pub read-moves : {f : List ℕ} {P : ℕ → Jp2 → Type 0} → Law f P → (m : Jp2) → given (read f) ≡ accepted m → Moves P (heard (length f) 0 blank) 0 f blank m
read-moves {f} {P} law m = go (read f) (walk-reads law blank)
  where
    go : (w : Walked) → Reads P (heard (length f) 0 blank) 0 f blank w → given w ≡ accepted m → Moves P (heard (length f) 0 blank) 0 f blank m
    go (codestream offset k) y e = let z : k ≡ m = cc in subst (Moves P (heard (length f) 0 blank) 0 f blank) z y.1
    go (ended k) y e = let z : k ≡ m = cc in subst (Moves P (heard (length f) 0 blank) 0 f blank) z y
    go (file_refused number place) y e = let z : ◌≡◌ {A = ℕ} 0 1 = cc in absurd (omega arith)

-- of what asks nothing of the record
nothing : (f : List ℕ) → Law f (λ _ _. Unit)
nothing f = record { later = λ _ _ _ _. tt; change = λ _ _ _ _ _ _ _. tt }

-- where there is no definition, the files are equal
pub definitions-free : DefinitionsFree
unfolding walk
definitions-free f g m e a =
    let d : AlikeFrom 0 (entries 6 m.lists.cdef) f g = alike-whole a (entries 6 m.lists.cdef) (omega arith) (omega arith) in
    each (λ (_ : ℕ). read g ≡ read f) (m.lists.cdef.count =? 0 ⇒ 0 ∣ otherwise 0)
    ((λ z. ap read (equal-apart d (λ i l b. omega arith))), λ h. rw (a.long, free refl (omega arith) (read-moves (nothing f) m e).list g d))

refused-reads : (f : List ℕ) (j : Jp2) (number place : ℕ) → walk f j ≡ file_refused number place → Refuses number place (length f)
refused-reads f j number place e = later (subst (Reads (λ _ _. Unit) (heard (length f) 0 j) 0 f j) e (walk-reads (nothing f) j)) (omega arith)

pub numbers-within : NumbersWithin
numbers-within f j number place e = let r = refused-reads f j number place e in (r.least, r.most)

pub places-within : PlacesWithin
places-within =
    record {
      refusal = λ f j number place e. (refused-reads f j number place e).within;
      stream = λ f j offset m e. omega (arith, (subst (Reads (λ _ _. Unit) (heard (length f) 0 j) 0 f j) e (walk-reads (nothing f) j)).0);
    }
