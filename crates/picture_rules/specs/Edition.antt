-- Document 02, request R-2: the two editions of the camera rules, and all that they part in. A flag picks the edition: 0 is edition 1, the crate's behaviour; any other number is edition 2.
use Rattle.std.specs.Prelude.{ℕ}
use Rattle.box_number.specs.Table.{◌=?◌, otherwise, ◌⇒◌∣◌, table}
use Rattle.read_record.specs.Component.{alpha, numbers_each}

-- a colour definition moves its channel's record from position p to position q: the position whose record then takes the mark. Edition 1: the old position p, where another channel's record is then (difference 31). Edition 2: q, where the channel's own record is
unfoldable pub marked_position : ℕ → ℕ → ℕ → ℕ
marked_position edition2 p q = table (edition2 =? 0 ⇒ p ∣ otherwise q)

-- number 26 counts the channels from here up. Edition 1: channel 0 may go undefined (difference 20)
unfoldable pub least_counted : ℕ → ℕ
least_counted edition2 = table (edition2 =? 0 ⇒ 1 ∣ otherwise 0)

-- how many numbers of a finished record are free of the order of definitions that clash nowhere. Edition 1: all but the mark, which is the last. Edition 2: all
unfoldable pub order_free_numbers : ℕ → ℕ
order_free_numbers edition2 = table (edition2 =? 0 ⇒ alpha ∣ otherwise numbers_each)
