-- Text that is put together in a list of bytes, piece after piece. What has no room there is left out.
use Rattle.std.specs.Prelude.{ℕ, zero, suc, ◌+◌, ◌-◌, ◌/◌, ◌%◌, List, [], ◌∷◌, ◌++◌, length, take}
use Rattle.box_number.specs.Table.{◌=?◌, ◌<?◌, ◌and◌, otherwise, ◌⇒◌∣◌, table}
use Rattle.box_number.specs.Number.{placed}

-- d with xs from a place on, as much of it as has room
unfoldable pub put : List ℕ → ℕ → List ℕ → List ℕ
put d at xs = placed d at (take (length d - at) xs)

-- the place after it
unfoldable pub after : List ℕ → ℕ → List ℕ → ℕ
after d at xs = at + length (take (length d - at) xs)

-- a number's last digit, after the digits of a tenth of it where that is not 0
unfoldable pub digits : ℕ → ℕ → List ℕ
digits zero n = []
digits (suc fuel) n = table (n <? 10 ⇒ [] ∣ otherwise (digits fuel (n / 10))) ++ ((48 + n % 10) ∷ [])

unfoldable pub decimal : ℕ → List ℕ
decimal n = digits (suc n) n

-- #, the byte of a shape that is replaced by a number
abbrev pub placeholder : ℕ
placeholder = 35

-- a shape in which each # is replaced by the next of some numbers; where none is left, # is kept
unfoldable pub filled : List ℕ → List ℕ → List ℕ
filled [] numbers = []
filled (b ∷ shape) [] = b ∷ filled shape []
filled (b ∷ shape) (n ∷ numbers) = table (b =? placeholder ⇒ decimal n ++ filled shape numbers ∣ otherwise (b ∷ filled shape (n ∷ numbers)))

-- numbers, a text before each
unfoldable pub behind : List ℕ → List ℕ → List ℕ
behind between [] = []
behind between (n ∷ numbers) = between ++ decimal n ++ behind between numbers

-- numbers, a text between two
unfoldable pub joined : List ℕ → List ℕ → List ℕ
joined between [] = []
joined between (n ∷ numbers) = decimal n ++ behind between numbers

-- line n, from 0, of lines that each end in a byte, as in a newline; nothing where it is not there
unfoldable pub line : ℕ → ℕ → List ℕ → List ℕ
line end n [] = []
line end n (b ∷ lines) =
    table
    (b =? end and n =? 0 ⇒ []
    ∣ b =? end ⇒ line end (n - 1) lines
    ∣ n =? 0 ⇒ b ∷ line end n lines
    ∣ otherwise (line end n lines))
