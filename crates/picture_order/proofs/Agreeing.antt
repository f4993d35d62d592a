-- Record by record, the list afterwards is the definition applied to the list before.
-- Assumes nothing.
use Prim.Native.Nat.{ℕ, ◌+◌, ◌*◌, ◌<◌}
use native.Mathlib.Omega.{arith}
use mathlib.Core.Path.{◌≡◌, refl, sym, ap, ◌∙◌}
use mathlib.Core.Bool.{false}
use mathlib.Core.List.{List}
use lib.ListN.{drop, get_or-append}
use Rattle.box_number.proofs.Rows.{Says, row}
use Rattle.read_record.specs.declared.Span.{Span}
use Rattle.read_channels.specs.Definitions.{definitions}
use Rattle.picture_rules.specs.Order.{arranged}
use Rattle.picture_rules.specs.Flat.{flat}
use Rattle.picture_rules.proofs.Flats.{flat-length, flat-at}
use Rattle.picture_rules.proofs.Alike.{arranged-alike}
use Rattle.picture_order.specs.Flat.{number_at, reorder_outside, reordered, afterwards}
use Rattle.picture_order.specs.Comps.{numbered}
use Rattle.picture_order.specs.Agree.{RecordByRecord}
use Rattle.picture_order.proofs.Numbered.{numbered-at}

-- number k of record r of a list that was put in order
number-in_order : (edition2 : ℕ) (f : List ℕ) (cdef : Span) (n : ℕ) (l : List ℕ) (r k : ℕ) → r < n → k < 13 → number_at (reordered edition2 f cdef n l) r k ≡ (arranged edition2 n (definitions f cdef) (number_at l)).records r k
unfolding reordered
number-in_order edition2 f cdef n l r k h b =
    let records = (arranged edition2 n (definitions f cdef) (number_at l)).records in
    get_or-append (flat records (13 * n)) (drop (13 * n) l) 0 (13 * r + k) (omega (arith, flat-length records (13 * n))) ∙ flat-at records n r k h b

inside_is : (edition2 : ℕ) (f : List ℕ) (cdef : Span) (n : ℕ) (l : List ℕ) → Says false (reorder_outside f cdef n l) → afterwards edition2 f cdef n l ≡ reordered edition2 f cdef n l
unfolding afterwards
inside_is edition2 f cdef n l h = sym (row 1 _ (h, tt) refl)

pub record_by_record : RecordByRecord
record_by_record edition2 f cdef n cs after inside e r k h b =
    sym (numbered-at after r k b) ∙ ap (λ l. number_at l r k) (e ∙ inside_is edition2 f cdef n (numbered cs) inside) ∙ number-in_order edition2 f cdef n (numbered cs) r k h b
    ∙ arranged-alike edition2 n (definitions f cdef) (number_at (numbered cs)) _ (λ p i _ c. numbered-at cs p i c) r k h b
