-- Which of document 01's numbers writing gives, and what it leaves in the destination.
use Rattle.std.specs.Prelude.{ℕ, ◌≤◌, ◌<◌, ◌≡◌, List, length, get_or}
use Rattle.write_rules.specs.Request.{Request}
use Rattle.write_rules.specs.Writing.{written, declined, write, destination}

-- 29 to 34, whatever is asked for
abbrev pub WritingNumbers : Type 0
WritingNumbers = (r : Request) (number place : ℕ) → write r ≡ declined number place → (29 ≤ number) × (number ≤ 34)

-- e is d with bs at its start: as long as before, and behind bs every byte as it was
pub record AtStart (d bs e : List ℕ) : Type 0 where
  pub long : length e ≡ length d
  pub bytes : (i : ℕ) → i < length bs → get_or e i 0 ≡ get_or bs i 0
  pub rest : (i : ℕ) → length bs ≤ i → get_or e i 0 ≡ get_or d i 0

-- bytes go to the start of a destination that has room for them, and a refusal leaves it as it was
abbrev pub DestinationAfter : Type 0
DestinationAfter =
    (d : List ℕ) →
    ((bs : List ℕ) → length bs ≤ length d → AtStart d bs (destination d (written bs)))
    × ((number place : ℕ) → destination d (declined number place) ≡ d)
