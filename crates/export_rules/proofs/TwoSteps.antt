-- Reading and then finishing gives the same as both in one step.
-- Assumes nothing.
use Prim.Native.Nat.{ℕ, ◌+◌}
use native.Mathlib.Omega.{arith}
use mathlib.Core.Path.{◌≡◌, refl, sym, ap, subst, ◌∙◌}
use mathlib.Core.List.{List, ◌++◌}
use lib.IntN.{ℤ}
use lib.ListN.{take, drop, length, take-append-drop}
use lib.Seq.{take-append_seam}
use Rattle.box_number.specs.Number.{placed}
use Rattle.read_record.specs.Record.{blank}
use Rattle.box_refusal.specs.Told.{Told}
use Rattle.read_rules.specs.File.{Walked, codestream, ended, file_refused, read, after}
use Rattle.read_rules.specs.Alike.{given}
use Rattle.read_rules.proofs.Definitions.{definitions-free, numbers-within}
use Rattle.picture_rules.specs.Words.{Handed}
use Rattle.picture_rules.specs.Finish.{Finishing}
use Rattle.picture_rules.specs.Answers.{Done}
use Rattle.picture_rules.specs.Whole.{pictured}
use Rattle.picture_rules.proofs.Wholes.{shows}
use Rattle.export_rules.specs.Numbers.{numbers}
use Rattle.export_rules.specs.FinishReading.{finish_reading}
use Rattle.export_rules.specs.TwoSteps.{FileOfBytes, ReadingGiven, ReadingShared, TwoSteps, ReadingFinished}
use Rattle.export_rules.proofs.Places.{places-right}
use Rattle.export_rules.proofs.FinishReading.{refused, on}
use Rattle.export_rules.proofs.Fitting.{fits}
use Rattle.export_rules.proofs.ThreeLists.{finish-same}

pub reading-given : ReadingGiven
unfolding placed
reading-given f d =
    let xs = numbers (read f) in
    let rest = drop (0 + length xs) d in
    subst (λ (n : ℕ). take n (xs ++ rest) ≡ xs) (places-right (read f)).long (take-append_seam xs rest)

pub reading-shared : ReadingShared
reading-shared h g m xs o is = is ∙ ap (λ (w : Walked). numbers w) (sym (definitions-free h.file g m o.reads o.alike))

-- with any rest behind the numbers of the reading
with_rest : (h : Handed) (rest : List ℕ) → FileOfBytes h.file → finish_reading h (numbers (read h.file) ++ rest) ≡ pictured h
unfolding after pictured
with_rest h rest bytes = go (read h.file) refl
  where
    go : (w : Walked) → read h.file ≡ w → finish_reading h (numbers w ++ rest) ≡ pictured h
    go (codestream offset m) e =
        let s = fits h.file m bytes (ap given e) in
        rw e (on h _ (omega arith, (omega arith, ((λ two. absurd (omega arith)), (s.entries, s.columns)))) (λ two. omega arith) ∙ finish-same h m)
    go (ended m) e =
        let s = fits h.file m bytes (ap given e) in
        rw e (on h _ (omega arith, (omega arith, ((λ two. absurd (omega arith)), (s.entries, s.columns)))) (λ two. omega arith) ∙ finish-same h m)
    go (file_refused number place) e =
        let w = numbers-within h.file blank number place e in
        rw e (refused h _ (omega arith, (omega arith, ((λ two. ((λ z. omega (arith, w.0)), w.1)), (omega arith, omega arith)))) refl)

pub two_steps : TwoSteps
two_steps h xs bytes is =
    subst (λ (ys : List ℕ). finish_reading h ys ≡ pictured h) (ap (λ (ys : List ℕ). ys ++ drop 44 xs) (sym is) ∙ take-append-drop 44 xs) (with_rest h (drop 44 xs) bytes)

-- so demand 3 is said of finishing with a reading too
pub finishes :
    (h : Handed) (xs : List ℕ) (x : Finishing) {r : Told ℕ} (records : List ℕ) (planes : List ℤ) {records' : List ℕ} {planes' : List ℤ} →
    FileOfBytes h.file → finish_reading h xs ≡ x → Done x r records records' planes planes' → ReadingFinished h xs r records records' planes planes'
finishes h xs x records planes bytes is done =
    record { done = rw is done; demand3 = λ reads. (shows h x records planes (sym (two_steps h xs bytes reads) ∙ is) done).demand3 }
