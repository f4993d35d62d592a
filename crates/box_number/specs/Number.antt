-- I.2 and I.4: numbers in a file are big-endian. A byte past the end counts as 0.
use Rattle.std.specs.Prelude.{ℕ, zero, suc, ◌+◌, ◌-◌, ◌*◌, ◌/◌, ◌%◌, ◌^◌, ◌≤◌, ◌≡◌, Bool, true, false, List, [], ◌∷◌, ◌++◌, length, get_or, take, drop}
use Rattle.box_number.specs.Table.{Test, ◌<?◌, ◌or◌, otherwise, ◌⇒◌∣◌, table}

-- the number in the given count of bytes that starts at a place of c
unfoldable pub number : List ℕ → ℕ → ℕ → ℕ
number c at zero = 0
number c at (suc n) = number c at n * 256 + get_or c (at + n) 0

-- the bytes of s from start up to end
unfoldable pub part : List ℕ → ℕ → ℕ → List ℕ
part s start end = take (end - start) (drop start s)

abbrev pub least : ℕ → ℕ → ℕ
least m n = table (m <? n ⇒ m ∣ otherwise n)

-- the given count of bytes of a number, the highest first and the lowest last
unfoldable pub bytes : ℕ → ℕ → List ℕ
bytes zero v = []
bytes (suc n) v = bytes n (v / 256) ++ (v % 256 ∷ [])

-- d with others from a place on, and the rest as it was
unfoldable pub placed : {A : Type 0} → List A → ℕ → List A → List A
placed d at xs = take at d ++ xs ++ drop (at + length xs) d

-- n elements from a place on do not lie in a list of the given length
abbrev pub lies_outside : ℕ → ℕ → ℕ → Test
lies_outside len place n = len <? place + n

-- a number has at most 4 bytes, and they have to lie in d; of 0 bytes nothing is written, which always has room inside d
abbrev pub no_room : List ℕ → ℕ → ℕ → Test
no_room d at n = 4 <? n or lies_outside (length d) at n

unfoldable pub fits : List ℕ → ℕ → ℕ → Bool
fits d at n = table (no_room d at n ⇒ false ∣ otherwise true)

-- d with the n low bytes of a number at a place, where they have room
unfoldable pub written : List ℕ → ℕ → ℕ → ℕ → List ℕ
written d at n v = table (no_room d at n ⇒ d ∣ otherwise (placed d at (bytes n v)))

-- a number that is written is read back, less what its width cannot hold
abbrev pub NumberReadBack : Type 0
NumberReadBack = (d : List ℕ) (at n v : ℕ) → n ≤ 4 → at + n ≤ length d → number (written d at n v) at n ≡ v % 256 ^ n
