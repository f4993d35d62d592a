-- What Setup.antt makes of a request, in the request's words.
-- Assumes nothing.
use Prim.Native.Nat.{ℕ, zero, suc, ◌+◌, ◌≤◌, ◌<◌}
use mathlib.Core.Path.{◌≡◌, refl, sym, ap, subst, ◌∙◌}
use mathlib.Core.List.{List, []}
use native.Mathlib.Omega.{arith}
use lib.ListN.{length}
use Rattle.std.proofs.lemmas.List.{nil_from_length}
use Rattle.box_number.specs.Table.{Test, ◌=?◌, ◌≠?◌, table}
use Rattle.box_number.specs.Lowest.{lowest, some}
use Rattle.box_number.proofs.Rows.{row, each}
use Rattle.box_number.proofs.Indices.{decide, last_or, lowest-passes, lowest-none, lowest-first}
use Rattle.read_channels.specs.Definitions.{def}
use Rattle.write_rules.specs.Request.{Request, alpha_of}
use Rattle.write_rules.specs.Words.{SameBits, OtherBits, enumcs_of, colour_count, Opacity}
use Rattle.write_rules.specs.Setup.{varies, BPCi, other_bits, BPC, EnumCS, colours, mark_count, N, written_definition, fields_of}
use Rattle.write_rules.proofs.Bounds.{Fit, meth-one, meth-two, no-space}

-- bits
module _ (r : Request) where
  -- the two rows of BPC
  by_bits : (P : ℕ → Type 0) → (SameBits r → P (BPCi r.components 0)) → ((c : ℕ) → OtherBits r c → P varies) → P (fields_of r).bpc
  unfolding BPC
  by_bits P same other =
      each P _ (
        (λ h. other (lowest (other_bits r.components) r.count) (h, lowest-passes (other_bits r.components) r.count h)),
        λ h. same (lowest-none (other_bits r.components) r.count h),
      )

  pub bits_or : {X : Type 0} → (SameBits r → X) → ((c : ℕ) → OtherBits r c → X) → X
  bits_or {X} same other = by_bits (λ (_ : ℕ). X) same other

  pub other-bits : (c : ℕ) → OtherBits r c → (fields_of r).bpc ≡ varies
  other-bits c o = by_bits (λ b. b ≡ varies) (λ s. absurd (o.1 (s c o.0))) (λ _ _. refl)

  -- one byte is not 255, since a component has at most 38 bits
  pub one_byte : Fit r → SameBits r → (fields_of r).bpc ≡ varies → ⊥
  unfolding BPCi
  one_byte fit s = by_bits (λ b. b ≡ varies → ⊥) (λ _ e. omega (arith, fit.bits 0 fit.some)) (λ c o. absurd (o.1 (s c o.0)))

-- profile and colour space
colours_16 : colours 16 ≡ 3
unfolding colours table
colours_16 = refl

colours_17 : colours 17 ≡ 1
unfolding colours table
colours_17 = refl

colours_18 : colours 18 ≡ 3
unfolding colours table
colours_18 = refl

colours_0 : colours 0 ≡ 0
unfolding colours table
colours_0 = refl

colours_of : (space : ℕ) → colours (enumcs_of space) ≡ colour_count space
unfolding enumcs_of colour_count
colours_of space =
    each (λ n. colours n ≡ colour_count space) _ (
      (λ a. colours_16 ∙ row 0 _ a refl),
      λ a. (
        (λ b. colours_17 ∙ row 1 _ (a, b) refl),
        λ b. ((λ c. colours_18 ∙ row 2 _ (a, (b, c)) refl), λ c. colours_0 ∙ row 3 _ (a, (b, (c, tt))) refl),
      ),
    )

module _ (r : Request) where
  pub profile_or : {X : Type 0} → (r.profile ≡ [] → X) → ((r.profile ≡ [] → ⊥) → X) → X
  profile_or none some = decide (length r.profile =? 0) (λ z. none (nil_from_length r.profile z)) (λ z. some (λ e. z (ap length e)))

  pub meth-enumerated : r.profile ≡ [] → (fields_of r).meth ≡ 1
  meth-enumerated e = meth-one r (ap length e)

  pub meth-profiled : (r.profile ≡ [] → ⊥) → (fields_of r).meth ≡ 2
  meth-profiled n = meth-two r (λ z. n (nil_from_length r.profile z))

  pub space-is : r.profile ≡ [] → (fields_of r).enumcs ≡ enumcs_of r.space
  unfolding EnumCS enumcs_of
  space-is e =
      each (λ n. n ≡ enumcs_of r.space) _ (
        (λ h. absurd (omega (arith, meth-enumerated e))),
        λ _. (
          (λ a. row 0 _ a refl),
          λ a. ((λ b. row 1 _ (a, b) refl), λ b. ((λ c. row 2 _ (a, (b, c)) refl), λ c. row 3 _ (a, (b, (c, tt))) refl)),
        ),
      )

  pub colours_are : r.profile ≡ [] → (fields_of r).colours ≡ colour_count r.space
  colours_are e = ap colours (space-is e) ∙ colours_of r.space

  colours-none : (r.profile ≡ [] → ⊥) → (fields_of r).colours ≡ 0
  colours-none n = ap colours (no-space r (meth-profiled n)) ∙ colours_0

-- marks
module _ (comps : List ℕ) where
  abbrev mark : ℕ → Test
  mark c = alpha_of comps c ≠? 0

  no-marks : (n : ℕ) → ((c : ℕ) → c < n → alpha_of comps c ≡ 0) → mark_count comps n ≡ 0
  unfolding mark_count
  no-marks zero h = refl
  no-marks (suc n) h = sym (row 1 _ (h n (omega arith), tt) (sym (no-marks n (λ c l. h c (omega arith)))))

  marks-none : (n : ℕ) → mark_count comps n ≡ 0 → (c : ℕ) → c < n → alpha_of comps c ≡ 0
  unfolding mark_count
  marks-none zero e c l = absurd (omega arith)
  marks-none (suc n) e c l =
      each (λ k. k ≡ 0 → alpha_of comps c ≡ 0) _ (
        (λ _ z. absurd (omega arith)),
        λ h z. last_or n c l (λ q. subst (λ (i : ℕ). alpha_of comps i ≡ 0) (sym q) h) (marks-none n z c),
      ) e

  -- a component that is not the only marked one has no mark
  unmarked : (n o : ℕ) → ((c : ℕ) → c < n → (alpha_of comps c ≡ 0 → ⊥) → c ≡ o) → (c : ℕ) → c < n → (c ≡ o → ⊥) → alpha_of comps c ≡ 0
  unmarked n o alone c l d = decide (alpha_of comps c =? 0) (λ z. z) (λ z. absurd (d (alone c l z)))

  one-mark : (n o : ℕ) → o < n → (alpha_of comps o ≡ 0 → ⊥) → ((c : ℕ) → c < n → (alpha_of comps c ≡ 0 → ⊥) → c ≡ o) → mark_count comps n ≡ 1
  unfolding mark_count
  one-mark zero o l m alone = absurd (omega arith)
  one-mark (suc n) o l m alone =
      last_or n o l
      (λ e. sym (row 0 _ (subst (λ (i : ℕ). alpha_of comps i ≡ 0 → ⊥) e m) (ap suc (sym (no-marks n (λ c b. unmarked (suc n) o alone c (omega arith) (λ d. omega arith)))))))
      (λ b. sym (row 1 _ (unmarked (suc n) o alone n (omega arith) (λ d. omega arith), tt) (sym (one-mark n o b m (λ c d. alone c (omega arith))))))

  -- two marked components are the same where one mark is counted
  same-mark : (n : ℕ) → mark_count comps n ≡ 1 → (c d : ℕ) → c < n → d < n → (alpha_of comps c ≡ 0 → ⊥) → (alpha_of comps d ≡ 0 → ⊥) → c ≡ d
  unfolding mark_count
  same-mark zero e c d l k m p = absurd (omega arith)
  same-mark (suc n) e c d l k m p =
      each (λ j. j ≡ 1 → c ≡ d) _ (
        (λ _ z.
            let none = marks-none n (omega arith) in
            last_or n c l (λ q. last_or n d k (λ s. q ∙ sym s) (λ b. absurd (p (none d b)))) (λ b. absurd (m (none c b)))),
        λ h z.
            last_or n c l (λ q. absurd (m (subst (λ (i : ℕ). alpha_of comps i ≡ 0) (sym q) h)))
            (λ b. last_or n d k (λ s. absurd (p (subst (λ (i : ℕ). alpha_of comps i ≡ 0) (sym s) h))) (λ a. same-mark n z c d b a m p)),
      ) e

  -- and there is one, the lowest
  some-mark : (n : ℕ) → mark_count comps n ≡ 1 → lowest mark n < n
  some-mark n e = decide (some mark n) (λ h. h) (λ h. absurd (omega (arith, no-marks n (lowest-none mark n h))))

-- definitions
module _ (r : Request) where
  module _ (o : ℕ) (p : Opacity r o) where
    one-opacity : mark_count r.components r.count ≡ 1
    one-opacity = one-mark r.components r.count o p.there p.marked p.alone

    first-opacity : o ≡ lowest (mark r.components) r.count
    first-opacity =
        lowest-first (mark r.components) o r.count
        (λ i b. unmarked r.components r.count o p.alone i (omega (arith, p.there)) (λ e. omega arith))
        p.marked
        p.there

  -- the rows of N
  by-opacity : (P : ℕ → Type 0) → ((o : ℕ) → Opacity r o → P r.count) → (((o : ℕ) → Opacity r o → ⊥) → P 0) → P (fields_of r).definitions
  unfolding N
  by-opacity P some none =
      each P _ (
        (λ many. none (λ o p. many (one-opacity o p))),
        λ one. (
          (λ unknown. none (λ o p. omega (arith, p.known, colours_are r p.enumerated))),
          λ known. (
            (λ before. none (λ o p. omega (arith, p.behind, colours_are r p.enumerated, first-opacity o p))),
            λ behind.
                let o = lowest (mark r.components) r.count in
                let there = some-mark r.components r.count one in
                let marked = lowest-passes (mark r.components) r.count there in
                let enumerated : r.profile ≡ [] = profile_or r (λ e. e) (λ n. absurd (known (colours-none r n))) in
                let many = colours_are r enumerated in
                some o
                (record {
                  enumerated = enumerated;
                  known = omega arith;
                  behind = omega arith;
                  there = there;
                  marked = marked;
                  alone = λ c l m. same-mark r.components r.count one c o l there m marked;
                }),
          ),
        ),
      )

  pub opacity_or : {X : Type 0} → ((o : ℕ) → Opacity r o → X) → (((o : ℕ) → Opacity r o → ⊥) → X) → X
  opacity_or {X} some none = by-opacity (λ (_ : ℕ). X) some none

  pub all-defined : (o : ℕ) → Opacity r o → (fields_of r).definitions ≡ r.count
  all-defined o p = by-opacity (λ n. n ≡ r.count) (λ _ _. refl) (λ none. absurd (none o p))

  pub none-defined : ((o : ℕ) → Opacity r o → ⊥) → (fields_of r).definitions ≡ 0
  none-defined none = by-opacity (λ n. n ≡ 0) (λ o p. absurd (none o p)) (λ _. refl)

  -- what is written of each channel
  module _ (o : ℕ) (p : Opacity r o) where
    pub colour-written : (c : ℕ) → c < colour_count r.space → written_definition r.components (fields_of r).colours c ≡ def c 0 (c + 1)
    unfolding written_definition
    colour-written c l = sym (row 0 _ (omega (arith, colours_are r p.enumerated)) refl)

    pub opacity-written : written_definition r.components (fields_of r).colours o ≡ def o 1 0
    unfolding written_definition
    opacity-written = sym (row 1 _ (omega (arith, p.behind, colours_are r p.enumerated), p.marked) refl)

    pub rest-written : (c : ℕ) → c < r.count → colour_count r.space ≤ c → (c ≡ o → ⊥) → written_definition r.components (fields_of r).colours c ≡ def c 65535 65535
    unfolding written_definition
    rest-written c l b d = sym (row 2 _ (omega (arith, colours_are r p.enumerated), (unmarked r.components r.count o p.alone c l d, tt)) refl)
