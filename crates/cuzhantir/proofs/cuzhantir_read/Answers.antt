use Prim.Native.Nat.{ℕ}
use native.Mathlib.Omega.{arith}
use mathlib.Core.Path.{◌≡◌, sym, ap, ◌∙◌, refl}
use mathlib.Core.List.{List, ◌++◌}
use lib.ListN.{length, drop, take, length-take}
use Rattle.box_number.specs.Number.{placed}
use Rattle.read_rules.specs.File.{Walked}
use Rattle.export_rules.specs.Places.{reading_length}
use Rattle.export_rules.specs.Numbers.{numbers, refusal_number}
use Rattle.export_rules.proofs.Room.{short, long}
use Rattle.export_rules.proofs.Places.{places-right}
use Rattle.export_rules.proofs.CutTold.{cut-told}
use Rattle.cuzhantir.proofs.cuzhantir_read.Goals as goal

-- the numbers of a walk in front of a list
in-front : (d : List ℕ) (w : Walked) {xs : List ℕ} → xs ≡ numbers w → xs ++ drop 44 d ≡ placed d 0 (numbers w)
unfolding placed
in-front d w e = rw ((places-right w).long, e) refl

pub returns-then-reading-lt-READING_LENGTH-clause-value : goal.returns-then-reading-lt-READING_LENGTH-clause-value
returns-then-reading-lt-READING_LENGTH-clause-value c = short reading_length c.args.reading.now _ _ c.if-reading-lt-READING_LENGTH.true

pub returns-then-reading-lt-READING_LENGTH-clause-reading_after : goal.returns-then-reading-lt-READING_LENGTH-clause-reading_after
returns-then-reading-lt-READING_LENGTH-clause-reading_after c = short reading_length c.args.reading.now _ _ c.if-reading-lt-READING_LENGTH.true

pub copy_from_slice-requires : goal.copy_from_slice-requires
copy_from_slice-requires c =
    let w = c.read_file-r.ensures.value in
    let h = c.if-reading-lt-READING_LENGTH.false in
    let l : length (take 44 c.args.reading.now) ≡ 44 = simp length-take (omega arith) in
    l ∙ sym (ap length c.of_reading.ensures ∙ (places-right _).long)

pub returns-clause-value : goal.returns-clause-value
returns-clause-value c = long reading_length c.args.reading.now _ _ c.if-reading-lt-READING_LENGTH.false (c.refusal_number.ensures ∙ ap refusal_number c.read_file-r.ensures.value)

pub returns-clause-reading_after : goal.returns-clause-reading_after
returns-clause-reading_after c =
    let d = c.args.reading.now in
    long reading_length d _ _ c.if-reading-lt-READING_LENGTH.false (in-front d _ (c.copy_from_slice.ensures.after ∙ c.of_reading.ensures ∙ ap numbers c.read_file-r.ensures.value))

pub returns-clause-cut_told : goal.returns-clause-cut_told
returns-clause-cut_told c =
    let d = c.args.reading.now in
    cut-told _ d _ (in-front d _ (c.copy_from_slice.ensures.after ∙ c.of_reading.ensures ∙ ap numbers c.read_file-r.ensures.value))
