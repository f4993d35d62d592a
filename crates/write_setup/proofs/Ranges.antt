-- What `find` and `any` answer over the indices below n, by a test of an index: as in box_number, where the test that is asked is the test itself.
-- Assumes nothing.
use Rattle.std.proofs.Common.{◌≡◌, ℕ, ◌-◌, ◌≤◌, ◌<◌, Bool, true, false, length, Option, Some, None, MatchOption, MatchBool, refl, arith}
use Rattle.std.specs.List.{range_with_len, HoldsAt, AllWithin}
use Rattle.box_number.specs.Table.{Test, holds}
use Rattle.box_number.specs.Lowest.{lowest, some, found}
use Rattle.box_number.proofs.Found.{found-is, some-is}
use Rattle.box_number.proofs.Rows.{each}

module _ (t : ℕ → Test) where
  -- the test holds, and it fails
  abbrev pub Yes : ℕ → Type 0
  Yes i = true ≡ holds (t i)

  abbrev pub No : ℕ → Type 0
  No i = false ≡ holds (t i)

  module _ (n : ℕ) where
    pub first_found : (r : Option ℕ) → MatchOption r ((k : ℕ) → 0 ≤ k → k < n → No k) (λ i. (0 ≤ i) × (i < n) × Yes i × ((k : ℕ) → 0 ≤ k → k < i → No k)) → r ≡ found t n
    first_found = found-is t t 0 n (λ k l. absurd (omega arith)) (λ k from l. refl)

    pub any_found : (r : Bool) → (let all = range_with_len 0 n in MatchBool r ((k : ℕ) × (k < length all) × HoldsAt Yes all k) (AllWithin No all 0 (length all))) → r ≡ holds (some t n)
    any_found r h = let z : n - 0 ≡ n = omega arith in some-is t t 0 n (λ k l. absurd (omega arith)) (λ k from l. refl) r (rw z h)

    -- and what an answer says of the lowest index
    pub first-some : (i : ℕ) → Some i ≡ found t n → (i ≡ lowest t n) × (i < n)
    first-some i e = each (λ (x : Option ℕ). Some i ≡ x → (i ≡ lowest t n) × (i < n)) _ ((λ l d. let s : i ≡ lowest t n = cc in (s, omega arith)), λ l d. cc) e

    pub first-none : None ≡ found t n → n ≤ lowest t n
    first-none e = each (λ (x : Option ℕ). None ≡ x → n ≤ lowest t n) _ ((λ l d. cc), λ l d. l) e
