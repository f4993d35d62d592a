-- The four numbers of an answer of finishing or writing, and what they say.
use Rattle.std.specs.Prelude.{ℕ, ◌≡◌, List, [], ◌∷◌, get_or}
use Rattle.box_number.specs.Table.{◌=?◌, otherwise, ◌⇒◌∣◌, table}
use Rattle.box_number.specs.Number.{placed}
use Rattle.box_refusal.specs.Told.{Told, accepted, refused}
use Rattle.export_rules.specs.Places.{answer_kind, answer_number, answer_place, answer_count, answer_done, answer_refused}

-- 0, and the number of planes or bytes
abbrev pub done_numbers : ℕ → List ℕ
done_numbers count = answer_done ∷ 0 ∷ 0 ∷ count ∷ []

-- 1, document 01's number, and its index or needed length
abbrev pub refused_numbers : ℕ → ℕ → List ℕ
refused_numbers number place = answer_refused ∷ number ∷ place ∷ 0 ∷ []

abbrev pub of_told : Told ℕ → List ℕ
of_told (accepted n) = done_numbers n
of_told (refused number place) = refused_numbers number place

-- what an entry returns for an answer: document 01's number, 0 for what is done
abbrev pub returned : List ℕ → ℕ
returned answer = get_or answer answer_number 0

-- what the numbers of an answer say: planes or bytes where the kind is "done", as many as it counts, else a refusal. A list without a kind counts as refused
unfoldable pub answer_in : List ℕ → Told ℕ
answer_in xs =
    table
    (get_or xs answer_kind answer_refused =? answer_done ⇒ accepted (get_or xs answer_count 0)
    ∣ otherwise (refused (get_or xs answer_number 0) (get_or xs answer_place 0)))

-- they say what was answered, whatever else is in the list
abbrev pub AnswerTold : Type 0
AnswerTold = (d : List ℕ) (r : Told ℕ) → answer_in (placed d 0 (of_told r)) ≡ r
