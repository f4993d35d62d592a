-- Document 01, "Colour, palette, order": what definitions, run in their order, make of the records of n channels.
use Rattle.std.specs.Prelude.{ℕ, ◌+◌, ◌-◌, List, [], ◌∷◌}
use Rattle.box_number.specs.Table.{◌=?◌, ◌<?◌, ◌or◌, ◌and◌, otherwise, ◌⇒◌∣◌, table}
use Rattle.read_record.specs.Component.{alpha}
use Rattle.read_channels.specs.Definitions.{Def}
use Rattle.picture_rules.specs.Definitions.{whole_image, unassociated}
use Rattle.picture_rules.specs.Edition.{marked_position}

-- the position of each channel, and number k of the record at each position
pub record Arranged : Type 0 where
  pub seat : ℕ → ℕ
  pub records : ℕ → ℕ → ℕ

-- the position that x becomes when positions p and q are exchanged
unfoldable pub exchange : ℕ → ℕ → ℕ → ℕ
exchange p q x = table (x =? p ⇒ q ∣ x =? q ⇒ p ∣ otherwise x)

-- the records at p and q swap, and the channels with them
abbrev pub swapped : ℕ → ℕ → Arranged → Arranged
swapped p q a = record { seat = λ c. exchange p q (a.seat c); records = λ r k. a.records (exchange p q r) k }

-- the record at position p takes a mark, its last number
abbrev pub marked : ℕ → ℕ → Arranged → Arranged
marked p typ a = record { seat = a.seat; records = λ r k. table (r =? p and k =? alpha ⇒ typ ∣ otherwise (a.records r k)) }

-- one definition. A current position, or a wanted one, without a record passes it over; asoc 0 or 65535 only marks; a colour's record swaps to its place, and the
-- record that the edition says takes the mark (in edition 1 difference 31). Any typ is a mark (difference 35), and definitions that clash are all run (difference 34).
unfoldable pub define : ℕ → ℕ → Def → Arranged → Arranged
define edition2 n d a =
    let p = a.seat d.channel in
    let q = d.asoc - 1 in
    table
    (n <? p + 1 ⇒ a
    ∣ d.asoc =? whole_image or d.asoc =? unassociated ⇒ marked p d.typ a
    ∣ n <? d.asoc ⇒ a
    ∣ d.typ =? 0 ⇒ marked (marked_position edition2 p q) 0 (swapped p q a)
    ∣ otherwise (marked p d.typ a))

unfoldable pub run_definitions : ℕ → ℕ → List Def → Arranged → Arranged
run_definitions edition2 n [] a = a
run_definitions edition2 n (d ∷ ds) a = run_definitions edition2 n ds (define edition2 n d a)

-- from the start, where channel c is at position c
abbrev pub arranged : ℕ → ℕ → List Def → (ℕ → ℕ → ℕ) → Arranged
arranged edition2 n ds records = run_definitions edition2 n ds (record { seat = λ c. c; records = records })
