-- The reorder alone, as one table that is computed whole: its answer, and every number of the list afterwards, in both editions.
use Rattle.std.specs.Prelude.{ℕ, ◌≡◌, refl, ⊤, List, [], ◌∷◌, ◌++◌, take}
use Rattle.box_number.specs.Number.{number, bytes}
use Rattle.box_number.specs.Table.{table}
use Rattle.box_refusal.specs.Told.{Told, accepted, refused}
use Rattle.read_record.specs.declared.Span.{Span}
use Rattle.read_record.specs.Record.{span}
use Rattle.read_channels.specs.Definitions.{def, definitions_to}
use Rattle.picture_rules.specs.Edition.{marked_position}
use Rattle.picture_rules.specs.Order.{exchange, define, run_definitions}
use Rattle.picture_rules.specs.Flat.{flat}
use Rattle.picture_rules.specs.Boxes.{definition_fields}
use Rattle.picture_order.specs.Flat.{reordered, answered, afterwards}

-- a record by its first number and its mark
abbrev pub record_of : ℕ → ℕ → List ℕ
record_of name mark = name ∷ 2 ∷ 3 ∷ 4 ∷ 5 ∷ 6 ∷ 7 ∷ 8 ∷ 9 ∷ 10 ∷ 11 ∷ 12 ∷ mark ∷ []

abbrev pub pair : List ℕ
pair = record_of 100 9 ++ record_of 200 9

-- three bytes, then the definitions (0,0,2) and (1,2,0): 15 bytes
abbrev pub file : List ℕ
file = 7 ∷ 7 ∷ 7 ∷ definition_fields (def 0 0 2 ∷ def 1 2 0 ∷ [])

-- a table of files, definition lists, counts of records and lists, with the answer, and the list afterwards in edition 1 and in edition 2
infixr 20 ◌at◌count◌of◌gives◌with◌and◌∣◌
pub data Cases : Type 0 where
  end : Cases
  ◌at◌count◌of◌gives◌with◌and◌∣◌ : List ℕ → Span → ℕ → List ℕ → Told ⊤ → List ℕ → List ℕ → Cases → Cases

abbrev pub cases : Cases
cases =
    -- records change places, and what follows them stays
    file at span 3 2 count 2 of pair ++ 55 ∷ [] gives accepted tt with record_of 200 2 ++ record_of 100 9 ++ 55 ∷ [] and record_of 200 2 ++ record_of 100 0 ++ 55 ∷ [] ∣
    -- a record that is not counted stays
    file at span 3 1 count 1 of pair gives accepted tt with pair and pair ∣
    -- definitions that do not lie in the file: one byte short, and one place further
    take 14 file at span 3 2 count 2 of pair gives refused 29 0 with pair and pair ∣
    file at span 4 2 count 2 of pair gives refused 29 0 with pair and pair ∣
    -- no definitions, wherever their place is
    [] at span 99 0 count 2 of pair gives accepted tt with pair and pair ∣
    -- a record of 12 numbers, and one that is not there
    file at span 3 2 count 2 of take 25 pair gives refused 29 0 with take 25 pair and take 25 pair ∣
    [] at span 0 0 count 1 of [] gives refused 29 0 with [] and [] ∣
    [] at span 0 0 count 0 of [] gives accepted tt with [] and [] ∣
    end

abbrev pub answers : Cases → List (Told ⊤)
answers end = []
answers (f at d count n of l gives r with e and g ∣ rest) = answered f d n l ∷ answers rest

abbrev pub lists : Cases → List (List ℕ)
lists end = []
lists (f at d count n of l gives r with e and g ∣ rest) = afterwards 0 f d n l ∷ afterwards 1 f d n l ∷ lists rest

abbrev pub expected_answers : Cases → List (Told ⊤)
expected_answers end = []
expected_answers (f at d count n of l gives r with e and g ∣ rest) = r ∷ expected_answers rest

abbrev pub expected_lists : Cases → List (List ℕ)
expected_lists end = []
expected_lists (f at d count n of l gives r with e and g ∣ rest) = e ∷ g ∷ expected_lists rest

pub reorder_cases : (answers cases ≡ expected_answers cases) × (lists cases ≡ expected_lists cases)
unfolding table number bytes definitions_to marked_position exchange define run_definitions flat reordered answered afterwards
reorder_cases = (refl, refl)
