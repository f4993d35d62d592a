-- One answer and one record: with the record, each answer is one of a reader by value, of which all is told.
-- Assumes nothing.
use Rattle.std.proofs.Common.{◌≡◌, ℕ, refl, sym, ap, ◌∙◌, arith}
use Rattle.std.specs.Prelude.{⊤, OnErr}
use Rattle.std.specs.Prelude as std
use Rattle.box_refusal.specs.declared.Refusal.{Refusal}
use Rattle.box_refusal.specs.Told.{told}
use Rattle.box_refusal.proofs.Numbers.{told-once}
use Rattle.read_record.specs.declared.Jp2.{Jp2}
use Rattle.read_record.specs.Lent.{leaves, OneOutcome}

-- an answer and the record at exit, as the reader by value answers
abbrev pub by_value : {U V : Type 0} → (U → Jp2 → V) → std.Result U (Refusal ℕ) → Jp2 → std.Result V (Refusal ℕ)
by_value pack (std.Ok u) k = std.Ok (pack u k)
by_value pack (std.Err r) k = std.Err r

-- from it come the answer and the record at exit; where it refuses, the record is the one at entry
module _ {U V : Type 0} (pack : U → Jp2 → V) (first : V → U) (second : V → Jp2) (one : (u : U) (k : Jp2) → first (pack u k) ≡ u) (two : (u : U) (k : Jp2) → second (pack u k) ≡ k) where
  pub apart : (a b : std.Result U (Refusal ℕ)) (i j k : Jp2) → by_value pack a j ≡ by_value pack b k → OnErr a (j ≡ i) → OnErr b (k ≡ i) → (a ≡ b) × (j ≡ k)
  apart (std.Ok u) (std.Ok v) i j k e p q = let d : pack u j ≡ pack v k = cc in (ap (λ x. std.Ok x) (sym (one u j) ∙ ap first d ∙ one v k), sym (two u j) ∙ ap second d ∙ two v k)
  apart (std.Ok u) (std.Err s) i j k e p q = let z : ◌≡◌ {A = ℕ} 0 1 = cc in absurd (omega arith)
  apart (std.Err r) (std.Ok v) i j k e p q = let z : ◌≡◌ {A = ℕ} 0 1 = cc in absurd (omega arith)
  apart (std.Err r) (std.Err s) i j k e p q = let d : r ≡ s = cc in (ap (λ x. std.Err x) d, p ∙ sym q)

left_is : (a : std.Result ⊤ (Refusal ℕ)) (k : Jp2) → leaves a k ≡ told (by_value (λ u j. j) a k)
left_is (std.Ok u) k = refl
left_is (std.Err r) k = refl

pub one-outcome : OneOutcome
one-outcome a b i j k d (e, p) (f, q) = apart (λ u j. j) (λ _. tt) (λ j. j) (λ u j. refl) (λ u j. refl) a b i j k (told-once _ _ (sym (left_is a j) ∙ e ∙ sym f ∙ left_is b k)) p q
