-- A refusal that `At::refused` made, and one that `?` passes up.
-- Assumes nothing.
use Rattle.std.proofs.Common.{◌≡◌, ℕ, ap, ◌∙◌}
use Rattle.std.specs.Prelude.{Result, Ok, Err, ⊤}
use Rattle.std.specs.Result.{IsErrAnd}
use Rattle.box_refusal.specs.declared.Refusal.{Refusal}
use Rattle.box_refusal.specs.Told.{Told, refused, number, told}
use Rattle.read_record.specs.declared.Jp2.{Jp2}
use Rattle.read_record.specs.Lent.{leaves}

pub turned_down : {A : Type 0} {x : Told A} {r s : Refusal ℕ} → r ≡ s → told (Err s) ≡ x → told (Err r) ≡ x
turned_down e f = ap (λ (t : Refusal ℕ). told (Err t)) e ∙ f

pub passed_up : {A : Type 0} {x : Told A} (r : Result A (Refusal ℕ)) (e : Refusal ℕ) → IsErrAnd r (λ (d : Refusal ℕ). d ≡ e) → refused (number e.cause) e.place ≡ x → told r ≡ x
passed_up (Ok a) e h f = absurd h
passed_up (Err d) e h f = ap (λ (t : Refusal ℕ). told (Err t)) h ∙ f

pub passed_on : {x : Told Jp2} (k : Jp2) (r : Result ⊤ (Refusal ℕ)) (e : Refusal ℕ) → IsErrAnd r (λ (d : Refusal ℕ). d ≡ e) → refused (number e.cause) e.place ≡ x → leaves r k ≡ x
passed_on k (Ok u) e h f = absurd h
passed_on k (Err d) e h f = ap (λ (t : Refusal ℕ). refused (number t.cause) t.place) h ∙ f
