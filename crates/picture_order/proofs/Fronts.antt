-- Records in front of a list are put in order by themselves, and stay as they are where nothing is defined.
-- Assumes nothing.
use Prim.Native.Nat.{ℕ, ◌+◌, ◌*◌, ◌≤◌, ◌<◌}
use mathlib.Core.Path.{◌≡◌, refl, ap, ap₂, ◌∙◌}
use mathlib.Core.List.{List, ◌++◌}
use native.Mathlib.Omega.{arith}
use lib.ListN.{length, drop, get_or-append}
use lib.Seq.{drop_at}
use Rattle.read_record.specs.declared.Span.{Span}
use Rattle.read_channels.specs.Definitions.{definitions, definitions_to}
use Rattle.picture_rules.specs.Order.{run_definitions, arranged}
use Rattle.picture_rules.specs.Flat.{flat}
use Rattle.picture_rules.proofs.Flats.{flat-length, flat-at, flat-alike}
use Rattle.picture_rules.proofs.Alike.{arranged-alike}
use Rattle.picture_order.specs.Flat.{number_at, reordered}
use Rattle.picture_order.proofs.Listing.{whole}

pub reordered-front : (edition2 : ℕ) (f : List ℕ) (cdef : Span) (n : ℕ) (records : ℕ → ℕ → ℕ) (d : List ℕ) → reordered edition2 f cdef n (flat records (13 * n) ++ drop (13 * n) d) ≡ flat (arranged edition2 n (definitions f cdef) records).records (13 * n) ++ drop (13 * n) d
unfolding reordered
reordered-front edition2 f cdef n records d =
    ap₂ ◌++◌
    (flat-alike _ _ n (arranged-alike edition2 n (definitions f cdef) (number_at (front ++ drop (13 * n) d)) records says))
    (drop_at front (drop (13 * n) d) (13 * n) long)
  where
    front : List ℕ
    front = flat records (13 * n)

    long : length front ≡ 13 * n
    long = flat-length records (13 * n)

    -- the list has the records in front
    says : (p k : ℕ) → p < n → k < 13 → number_at (front ++ drop (13 * n) d) p k ≡ records p k
    says p k h l = get_or-append front _ 0 (13 * p + k) (omega (arith, long)) ∙ flat-at records n p k h l

-- without definitions the run is its start
pub reordered-none : (edition2 : ℕ) (f : List ℕ) (cdef : Span) (n : ℕ) (l : List ℕ) → cdef.count ≡ 0 → 13 * n ≤ length l → l ≡ reordered edition2 f cdef n l
unfolding definitions_to run_definitions
reordered-none edition2 f cdef n l none room = whole edition2 f cdef n l l refl room (λ r k h. ap (λ i. (arranged edition2 n (definitions_to f cdef i) (number_at l)).records r k) none)
