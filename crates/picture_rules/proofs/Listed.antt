-- The definitions of a list in the file: each of them occurs, what occurs is one of them, and definition j is at index j; of those of a channel one is the last.
-- Assumes nothing.
use Prim.Native.Nat.{ℕ, zero, suc, ◌+◌, ◌<◌}
use mathlib.Core.Path.{◌≡◌, refl, ap, sym, ◌∙◌}
use mathlib.Core.Bool.{Bool, true, false}
use mathlib.Core.List.{List, [], ◌∷◌, ◌++◌}
use native.Mathlib.Omega.{arith}
use lib.ListN.{length, length-append, get_or-append}
use lib.Seq.{get_or_at}
use Rattle.box_number.specs.Table.{Test, ◌=?◌, ◌<?◌, ◌and◌, otherwise, ◌⇒◌∣◌, pick, table}
use Rattle.box_number.proofs.Rows.{row, each}
use Rattle.read_record.specs.declared.Span.{Span}
use Rattle.read_channels.specs.Cdef.{Cn}
use Rattle.read_channels.specs.Definitions.{Def, def, definition, definitions_to, definitions}
use Rattle.picture_rules.specs.Definitions.{same, times, Reordered}
use Rattle.picture_rules.specs.Rules.{definition_at}
use Rattle.box_number.proofs.Indices.{decide, last_or}

-- `same`, as a test
abbrev alike : Def → Def → Test
alike d e = (d.channel =? e.channel and d.typ =? e.typ) and d.asoc =? e.asoc

pick_add : (b : Bool) (m n : ℕ) → pick b (suc (m + n)) (m + n) ≡ pick b (suc m) m + n
pick_add true m n = omega arith
pick_add false m n = refl

module _ (d : Def) where
  times-append : (xs ys : List Def) → times d (xs ++ ys) ≡ times d xs + times d ys
  unfolding times
  times-append [] ys = omega arith
  times-append (x ∷ xs) ys = rw (times-append xs ys) (pick_add (same d x) (times d xs) (times d ys))

  -- in a list of one
  one-times : (e : Def) → table (alike d e ⇒ 1 ∣ otherwise 0) ≡ times d (e ∷ [])
  unfolding times same table
  one-times e = refl

  once : 1 ≡ times d (d ∷ [])
  once = row 0 (alike d d ⇒ 1 ∣ otherwise 0) ((refl, refl), refl) refl ∙ one-times d

  once_is : (e : Def) → 0 < times d (e ∷ []) → d ≡ e
  once_is e = rw (← one-times e) (each (λ n. 0 < n → d ≡ e) (alike d e ⇒ 1 ∣ otherwise 0) ((λ s _. λ i. def (s.0.0 i) (s.0.1 i) (s.1 i)), λ _ l. absurd (omega arith)))

module _ (f : List ℕ) (l : Span) where
  pub occurs : (n j : ℕ) → j < n → 0 < times (definition f l j) (definitions_to f l n)
  unfolding definitions_to
  occurs zero j h = absurd (omega arith)
  occurs (suc n) j h =
      let e = times-append (definition f l j) (definitions_to f l n) (definition f l n ∷ []) in
      last_or n j h
      (λ z. omega (arith, ap (λ k. times (definition f l k) (definition f l n ∷ [])) z, once (definition f l n)))
      (λ b. omega (arith, occurs n j b))

  pub found : (n : ℕ) (d : Def) → 0 < times d (definitions_to f l n) → (j : ℕ) × (j < n) × (d ≡ definition f l j)
  unfolding definitions_to times
  found zero d h = absurd (omega arith)
  found (suc n) d h =
      let e = times-append d (definitions_to f l n) (definition f l n ∷ []) in
      decide (0 <? times d (definitions_to f l n))
      (λ b. let r = found n d b in (r.0, omega (arith, r.1), r.2))
      (λ b. (n, omega arith, once_is d (definition f l n) (omega arith)))

  pub listed-length : (n : ℕ) → length (definitions_to f l n) ≡ n
  unfolding definitions_to
  listed-length zero = refl
  listed-length (suc n) = rw length-append (omega (arith, listed-length n))

  pub listed_at : (n j : ℕ) → j < n → definition_at (definitions_to f l n) j ≡ definition f l j
  unfolding definitions_to
  listed_at zero j h = absurd (omega arith)
  listed_at (suc n) j h =
      last_or n j h
      (λ e. rw e (get_or_at (definitions_to f l n) (definition f l n) [] (def 0 0 0) n (listed-length n)))
      (λ b. get_or-append (definitions_to f l n) _ (def 0 0 0) j (omega (arith, listed-length n)) ∙ listed_at n j b)

  -- of the first n definitions, number j is the last that names channel c
  pub record LastNamed (n c j : ℕ) : Type 0 where
    pub below : j < n
    pub names : Cn f l j ≡ c
    pub last : (i : ℕ) → j < i → i < n → Cn f l i ≡ c → ⊥

  -- where one names it, one is the last
  pub last-named : (n c j : ℕ) → j < n → Cn f l j ≡ c → (k : ℕ) × LastNamed n c k
  last-named zero c j h e = absurd (omega arith)
  last-named (suc n) c j h e =
      decide (Cn f l n =? c)
      (λ y. (n, record { below = omega arith; names = y; last = λ i a b. absurd (omega arith) }))
      (λ y. last_or n j h
      (λ z. absurd (y (ap (Cn f l) (sym z) ∙ e)))
      (λ b. let (k, r) = last-named n c j b e in (k, record { below = omega (arith, r.below); names = r.names; last = λ i a d. last_or n i d (λ z u. y (ap (Cn f l) (sym z) ∙ u)) (r.last i a) })))

-- a definition of one list is a definition of another that holds the same definitions
pub elsewhere : (f g : List ℕ) (l : Span) → Reordered (definitions f l) (definitions g l) → (j : ℕ) → j < l.count → (k : ℕ) × (k < l.count) × (definition f l j ≡ definition g l k)
elsewhere f g l r j h = found g l l.count (definition f l j) (omega (arith, r (definition f l j), occurs f l l.count j h))
