-- A picture's answer and destinations, compared with the list.
use Rattle.std.specs.Prelude.{ℕ, List, ℤ, Option, Some, None, length, get_or, map}
use Rattle.std.specs.Int.{w32}
use Rattle.std.proofs.Common.{of_z}
use Rattle.box_number.specs.Table.{Test, ◌=?◌, ◌≠?◌, otherwise, ◌⇒◌∣◌, table}
use Rattle.box_number.specs.Lowest.{lowest, some}
use Rattle.replay_picture.specs.Private.Listed.{numbers_of, answer_number, records_of, planes_of, content_at}

-- number k of an answer is not the listed one
abbrev pub answer_differs : List ℕ → List ℕ → ℕ → Test
answer_differs p answer k = get_or answer k 0 ≠? answer_number p k

-- the same of the records or the samples, by the bits of each
abbrev pub element_differs : {A : Type 0} → (A → ℕ) → List ℕ → List A → ℕ → Test
element_differs bits listed found k = get_or (map bits found) k 0 ≠? content_at listed k

-- the first index below n that passes a test
unfoldable pub first : (ℕ → Test) → ℕ → Option ℕ
first t n = table (some t n ⇒ Some (lowest t n) ∣ otherwise None)

-- how many numbers an answer has, and the position of document 01's number among them
abbrev pub answer_length : ℕ
answer_length = 4

abbrev pub answer_position : ℕ
answer_position = 1

-- the count of the tally for a picture: none where the list has ended or anything differs, behind the picture too; else 0 or the number of the refusal
unfoldable pub count_of : List ℕ → List ℕ → List ℕ → List ℤ → Option ℕ
count_of p answer records planes =
    table
    (length p =? 0 ⇒ None
    ∣ some (answer_differs p answer) answer_length ⇒ None
    ∣ some (element_differs (λ n. n) (records_of p) records) (length records) ⇒ None
    ∣ some (element_differs (of_z w32) (numbers_of (planes_of p)) planes) (length planes) ⇒ None
    ∣ otherwise (Some (get_or answer answer_position 0)))

-- the count of the tally for pictures that differ
abbrev pub differing : ℕ
differing = 31

-- the count of the tally for such an outcome
abbrev pub slot_of : Option ℕ → ℕ
slot_of None = differing
slot_of (Some n) = n
