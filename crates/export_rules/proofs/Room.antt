-- The two results of a list that is lent for numbers: where it is too short, and where it has room.
-- Assumes nothing.
use Prim.Native.Nat.{ℕ, ◌≤◌, ◌<◌}
use mathlib.Core.Path.{◌≡◌, refl, ap, ◌∙◌}
use mathlib.Core.List.{List}
use lib.ListN.{length}
use Rattle.box_number.specs.Number.{placed}
use Rattle.box_number.proofs.Rows.{row}
use Rattle.export_rules.specs.Places.{answer_length}
use Rattle.export_rules.specs.Answers.{returned}
use Rattle.export_rules.specs.Room.{room}

module _ {A : Type 0} (n : ℕ) (d : List ℕ) (x y : A) where
  pub short : length d < n → x ≡ room n d x y
  unfolding room
  short h = row 0 _ h refl

  pub long : n ≤ length d → {z : A} → z ≡ y → z ≡ room n d x y
  unfolding room
  long h e = row 1 _ (h, tt) e

-- what an entry returns and gives where there is room, by the numbers of its answer
pub answer-given :
    {A : Type 0} (numbers : A → List ℕ) (d : List ℕ) {r s : A} {n : ℕ} {e : List ℕ} → answer_length ≤ length d → r ≡ s → (n ≡ returned (numbers r)) × (e ≡ placed d 0 (numbers r)) →
    (n ≡ room answer_length d 30 (returned (numbers s))) × (e ≡ room answer_length d d (placed d 0 (numbers s)))
answer-given numbers d h q g =
    (long answer_length d _ _ h (g.0 ∙ ap (λ x. returned (numbers x)) q), long answer_length d _ _ h (g.1 ∙ ap (λ x. placed d 0 (numbers x)) q))
