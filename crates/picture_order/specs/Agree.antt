-- The reorder over a lent list of component records agrees with the core over the records' numbers, record by record.
use Rattle.std.specs.Prelude.{ℕ, ◌<◌, ◌≡◌, false, List, get_or}
use Rattle.box_number.specs.Table.{Says}
use Rattle.read_record.specs.declared.Span.{Span}
use Rattle.read_record.specs.Component.{numbers_each}
use Rattle.read_channels.specs.Definitions.{definitions}
use Rattle.picture_rules.specs.Order.{arranged}
use Rattle.picture_order.specs.Flat.{reorder_outside, afterwards}
use Rattle.picture_order.specs.declared.lent.Comp.{Comp}
use Rattle.picture_order.specs.Comps.{no_record, numbers_of, numbered}

-- number k of record r, in the order of the fields; `data`, number 11, is the first sample's index
abbrev pub field : List Comp → ℕ → ℕ → ℕ
field cs r k = get_or (numbers_of (get_or cs r no_record)) k 0

-- where nothing is outside its list, each of the first n records afterwards is the one that the definitions bring there
abbrev pub RecordByRecord : Type 0
RecordByRecord =
    (edition2 : ℕ) (f : List ℕ) (cdef : Span) (n : ℕ) (cs after : List Comp) → Says false (reorder_outside f cdef n (numbered cs)) → numbered after ≡ afterwards edition2 f cdef n (numbered cs) →
    (r k : ℕ) → r < n → k < numbers_each → field after r k ≡ (arranged edition2 n (definitions f cdef) (field cs)).records r k
