-- The marks of the channels that definitions name.
-- Assumes nothing.
use Rattle.std.proofs.Common.{ℕ, suc, ◌+◌, ◌≤◌, ◌<◌, ◌≡◌, Bool, true, false, List, length, get_or, set, sym, ◌∙◌, add-one, arith}
use borrow.Author.Tests.{not-true, not-false}
use native.Mathlib.Decide.{ℕ_discrete}
use lib.Seq.{get_or-set_same, get_or-set_other}
use Rattle.box_number.specs.Table.{◌=?◌, holds}
use Rattle.box_number.proofs.Rows.{each}
use Rattle.box_number.proofs.Answers.{said, shown, same}
use Rattle.box_number.proofs.Indices.{lowest-most}
use Rattle.read_record.specs.declared.Span.{Span}
use Rattle.read_channels.specs.Cdef.{Cn}
use Rattle.box_number.specs.Lowest.{lowest, some, found}
use Rattle.picture_rules.specs.Edition.{least_counted}
use Rattle.picture_rules.specs.Check.{undefined}
use Rattle.picture_check.specs.Private.Parts.{seen_after, unmarked}
use Rattle.box_number.proofs.Found.{found-same}

module _ (f : List ℕ) (l : Span) where
  mark-named : (c j : ℕ) → Cn f l j ≡ c → true ≡ seen_after f l (suc j) c
  unfolding lowest
  mark-named c j e =
      shown true (some (λ i. Cn f l i =? c) (suc j))
      (each (λ (x : ℕ). x < suc j) _ ((λ h. omega arith), λ h. ((λ p. omega arith), λ p. absurd (p e))))

  mark-kept : (c j : ℕ) → (Cn f l j ≡ c → ⊥) → seen_after f l j c ≡ seen_after f l (suc j) c
  unfolding lowest
  mark-kept c j d =
      let t = λ (i : ℕ). Cn f l i =? c in
      same (some t j) (some t (suc j))
      (λ h. each (λ (x : ℕ). x < suc j) _ ((λ g. omega arith), λ g. absurd (omega arith)))
      (λ h. each (λ (x : ℕ). suc j ≤ x) _ ((λ g. absurd (omega arith)), λ g. ((λ p. absurd (d p)), λ p. omega arith)))

  -- one definition more
  pub marks-next : (seen : List Bool) (j : ℕ) {n : ℕ} → n ≡ Cn f l j → n < length seen → ((c : ℕ) → c < length seen → get_or seen c false ≡ seen_after f l j c)
      → (c : ℕ) → c < length seen → get_or (set seen n true) c false ≡ seen_after f l (j + 1) c
  marks-next seen j {n} e b h c k = rw (add-one j) (go (ℕ_discrete c n))
    where
      go : Dec (c ≡ n) → get_or (set seen n true) c false ≡ seen_after f l (suc j) c
      go (yes d) = rw d (get_or-set_same seen n true false b ∙ mark-named n j (sym e))
      go (no d) = get_or-set_other seen n c true false d ∙ h c k ∙ mark-kept c j (λ z. d (sym (e ∙ z)))

  -- the channels without a mark are those that no definition names
  pub marks-all : (edition2 : ℕ) (seen : List Bool) (k : ℕ) → (l.count ≡ 0 → ⊥) → ((c : ℕ) → c < k → get_or seen c false ≡ seen_after f l l.count c)
      → found (unmarked (least_counted edition2) seen) k ≡ found (undefined edition2 f l) k
  marks-all edition2 seen k some-count h =
      found-same (unmarked (least_counted edition2) seen) (undefined edition2 f l) k
      (λ c b.
      let t = λ (j : ℕ). Cn f l j =? c in
      let e : get_or seen c false ≡ holds (some t l.count) = h c b in
      same (unmarked (least_counted edition2) seen c) (undefined edition2 f l c)
      (λ u. (some-count, (u.0, omega (arith, said false (some t l.count) (sym (not-true (get_or seen c false) u.1) ∙ e), lowest-most t l.count))))
      (λ u n p z. omega (arith, said true (some t l.count) (sym (not-false (get_or seen c false) (u p)) ∙ e))))
