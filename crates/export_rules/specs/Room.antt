-- A list that is lent for numbers.
use Rattle.std.specs.Prelude.{ℕ, List, length}
use Rattle.box_number.specs.Table.{◌<?◌, otherwise, ◌⇒◌∣◌, table}

-- one result where a list is too short for n numbers, another where it has room for them
unfoldable pub room : {A : Type 0} → ℕ → List ℕ → A → A → A
room n d short long = table (length d <? n ⇒ short ∣ otherwise long)
