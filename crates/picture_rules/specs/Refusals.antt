-- Which of document 01's numbers finishing gives.
use Rattle.std.specs.Prelude.{ℕ, ◌≤◌, ◌≡◌}
use Rattle.read_record.specs.declared.Jp2.{Jp2}
use Rattle.picture_rules.specs.Handed.{Handed}
use Rattle.picture_rules.specs.Finish.{declined, finish}

-- 25 to 30, for all inputs
abbrev pub FinishingNumbers : Type 0
FinishingNumbers = (h : Handed) (m : Jp2) (number place : ℕ) → finish h m ≡ declined number place → (25 ≤ number) × (number ≤ 30)
