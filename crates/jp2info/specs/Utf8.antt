-- RFC 3629, section 4: the characters of UTF-8, by the ranges of their bytes.
use Rattle.std.specs.Prelude.{ℕ, ◌+◌, List, length, get_or}
use Rattle.box_number.specs.Table.{Test, ◌=?◌, ◌<?◌, ◌or◌, ◌and◌, otherwise, ◌⇒◌∣◌, table}

-- byte i of a text lies between two numbers, or is one of them
unfoldable pub within : List ℕ → ℕ → ℕ → ℕ → Test
within s i low high = low <? get_or s i 0 + 1 and get_or s i 0 <? high + 1

abbrev pub tail : List ℕ → ℕ → Test
tail s i = within s i 0x80 0xbf

-- the first byte lies in one range, and the second in another
unfoldable pub pair : List ℕ → ℕ → ℕ → ℕ → ℕ → Test
pair s low high low2 high2 = within s 0 low high and within s 1 low2 high2

abbrev pub UTF8-2 : List ℕ → Test
UTF8-2 s = pair s 0xc2 0xdf 0x80 0xbf

abbrev pub UTF8-3 : List ℕ → Test
UTF8-3 s = tail s 2 and (pair s 0xe0 0xe0 0xa0 0xbf or pair s 0xe1 0xec 0x80 0xbf or pair s 0xed 0xed 0x80 0x9f or pair s 0xee 0xef 0x80 0xbf)

abbrev pub UTF8-4 : List ℕ → Test
UTF8-4 s = tail s 2 and tail s 3 and (pair s 0xf0 0xf0 0x90 0xbf or pair s 0xf1 0xf3 0x80 0xbf or pair s 0xf4 0xf4 0x80 0x8f)

-- the bytes of the character that a text starts with, 0 where it starts with none
unfoldable pub character : List ℕ → ℕ
character s =
    table
    (length s =? 0 ⇒ 0
    ∣ within s 0 0x00 0x7f ⇒ 1
    ∣ UTF8-2 s ⇒ 2
    ∣ UTF8-3 s ⇒ 3
    ∣ UTF8-4 s ⇒ 4
    ∣ otherwise 0)
