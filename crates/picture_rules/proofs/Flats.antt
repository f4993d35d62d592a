-- The numbers of records in one list: number k of record p is at 13 * p + k.
-- Assumes nothing.
use Prim.Native.Nat.{ℕ, zero, suc, ◌+◌, ◌*◌, ◌/◌, ◌%◌, ◌≤◌, ◌<◌}
use mathlib.Core.Path.{◌≡◌, refl, sym, ◌∙◌}
use mathlib.Core.List.{[], ◌∷◌, ◌++◌, append-nil, append_assoc}
use native.Mathlib.Nat.{add-zero, add-suc, le_refl}
use native.Mathlib.Omega.{arith}
use lib.ListN.{length, get_or, length-append, get_or-append}
use lib.Seq.{get_or_at}
use Rattle.picture_rules.specs.Flat.{flat}
use native.Mathlib.Decide.{ℕ_discrete}

module _ (records : ℕ → ℕ → ℕ) where
  pub flat-length : (n : ℕ) → length (flat records n) ≡ n
  unfolding flat
  flat-length zero = refl
  flat-length (suc n) = rw length-append (omega (arith, flat-length n))

  pub flat-number : (n i : ℕ) → i < n → get_or (flat records n) i 0 ≡ records (i / 13) (i % 13)
  unfolding flat
  flat-number zero i h = absurd (omega arith)
  flat-number (suc n) i h = go (ℕ_discrete i n) (flat-number n i)
    where
      go : Dec (i ≡ n) → (i < n → get_or (flat records n) i 0 ≡ records (i / 13) (i % 13)) → get_or (flat records n ++ (records (n / 13) (n % 13) ∷ [])) i 0 ≡ records (i / 13) (i % 13)
      go (yes e) f = rw e (get_or_at (flat records n) (records (n / 13) (n % 13)) [] 0 n (flat-length n))
      go (no e) f = get_or-append (flat records n) _ 0 i (omega (arith, flat-length n)) ∙ f (omega arith)

  pub flat-at : (n p k : ℕ) → p < n → k < 13 → get_or (flat records (13 * n)) (13 * p + k) 0 ≡ records p k
  flat-at n p k h l =
      let quotient : (13 * p + k) / 13 ≡ p = omega arith in
      let remainder : (13 * p + k) % 13 ≡ k = omega arith in
      flat-number (13 * n) (13 * p + k) (omega arith) ∙ rw (quotient, remainder)

  -- the first k numbers of record c are behind all records before it
  pub flat-more : (c k : ℕ) → k ≤ 13 → flat records (13 * c + k) ≡ flat records (13 * c) ++ flat (λ _. records c) k
  unfolding flat
  flat-more c zero h = rw add-zero (sym (append-nil (flat records (13 * c))))
  flat-more c (suc k) h =
      let quotient : (13 * c + k) / 13 ≡ c = omega arith in
      let remainder : (13 * c + k) % 13 ≡ k = omega arith in
      let few : k % 13 ≡ k = omega arith in
      rw (add-suc, quotient, remainder, few, flat-more c k (omega arith)) (append_assoc (flat records (13 * c)) _ _)

  -- one record more
  pub flat-next : (c : ℕ) → flat records (13 * (c + 1)) ≡ flat records (13 * c) ++ flat (λ _. records c) 13
  flat-next c = let e : 13 * (c + 1) ≡ 13 * c + 13 = omega arith in rw e (flat-more c 13 (le_refl 13))

-- records that are the same below n give the same list
pub flat-alike : (r s : ℕ → ℕ → ℕ) (n : ℕ) → ((p k : ℕ) → p < n → k < 13 → r p k ≡ s p k) → flat r (13 * n) ≡ flat s (13 * n)
unfolding flat
flat-alike r s n e = go (13 * n) (le_refl (13 * n))
  where
    go : (i : ℕ) → i ≤ 13 * n → flat r i ≡ flat s i
    go zero h = refl
    go (suc i) h = rw (go i (omega arith), e (i / 13) (i % 13) (omega arith) (omega arith))
