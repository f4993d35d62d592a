-- A text from outside the program, shown so that no byte of it controls a terminal or breaks a line of JSON.
use Rattle.std.specs.Prelude.{ℕ, zero, suc, ◌+◌, ◌/◌, ◌%◌, Bool, List, [], ◌∷◌, ◌++◌, length, take, drop, get_or}
use Rattle.box_number.specs.Table.{◌=?◌, ◌<?◌, flag, ◌or◌, ◌and◌, otherwise, ◌⇒◌∣◌, table}
use Rattle.jp2info.specs.Utf8.{character}

unfoldable pub digit : ℕ → ℕ
digit n = table (n <? 10 ⇒ 48 + n ∣ otherwise (87 + n))

-- \u00 in JSON and \x for people
unfoldable pub escape : Bool → List ℕ
escape json = table (flag json ⇒ 0x5c ∷ 0x75 ∷ 0x30 ∷ 0x30 ∷ [] ∣ otherwise (0x5c ∷ 0x78 ∷ []))

-- one byte: by its number where it is no printing ASCII; a backslash, and in JSON a quotation mark, after a backslash
unfoldable pub shown_byte : Bool → ℕ → List ℕ
shown_byte json b =
    table
    (b <? 0x20 or 0x7e <? b ⇒ escape json ++ (digit (b / 16) ∷ digit (b % 16) ∷ [])
    ∣ b =? 0x5c or flag json and b =? 0x22 ⇒ 0x5c ∷ b ∷ []
    ∣ otherwise (b ∷ []))

-- how many bytes at the front go together: those of a character of 2 or more, or one
unfoldable pub together : List ℕ → ℕ
together s = table (1 <? character s ⇒ character s ∣ otherwise 1)

-- such a character is shown as it is
unfoldable pub first_character : Bool → ℕ → List ℕ → List ℕ
first_character json n s = table (1 <? n ⇒ take n s ∣ otherwise (shown_byte json (get_or s 0 0)))

-- a text from its front on; each turn takes a byte at least
unfoldable pub quotes : ℕ → Bool → List ℕ → List ℕ
quotes zero json s = []
quotes (suc fuel) json s = table (length s =? 0 ⇒ [] ∣ otherwise (first_character json (together s) s ++ quotes fuel json (drop (together s) s)))

unfoldable pub quoted : Bool → List ℕ → List ℕ
quoted json s = quotes (length s) json s
