-- Lines are the parts of a split at the byte in which they end.
-- Assumes nothing.
use Rattle.std.proofs.Common.{◌≡◌, ℕ, zero, suc, ◌-◌, List, [], ◌∷◌, Option, Some, None, eqb, get_or, unwrap_or, refl, ap, ◌∙◌, arith}
use borrow.Author.Tests.{eqb-true, eqb-false}
use denote.Ref.{Bor}
use Rattle.std.specs.List.{slice_split, onto_first, slice_get}
use Rattle.std.specs.Option.{option_map}
use Rattle.std.proofs.lemmas.Option.{unwrap_or-slice_get}
use Rattle.box_number.proofs.Rows.{row, either}
use Rattle.text.specs.Text.{line}

onto : (b : ℕ) (parts : List (List ℕ)) → get_or (onto_first b parts) 0 [] ≡ b ∷ get_or parts 0 []
onto b [] = refl
onto b (part ∷ parts) = refl

onto-more : (b n : ℕ) (parts : List (List ℕ)) → get_or (onto_first b parts) (suc n) [] ≡ get_or parts (suc n) []
onto-more b n [] = refl
onto-more b n (part ∷ parts) = refl

split-line : (end n : ℕ) (lines : List ℕ) → get_or (slice_split (λ b. eqb b end) lines) n [] ≡ line end n lines
unfolding line
split-line end zero [] = refl
split-line end (suc n) [] = refl
split-line end zero (b ∷ lines) =
    either (eqb b end)
    (λ e. rw e (row 0 _ (eqb-true _ _ e, refl) refl))
    (λ e. rw e (onto b (slice_split (λ b. eqb b end) lines) ∙ ap (λ (x : List ℕ). b ∷ x) (split-line end zero lines) ∙ row 2 _ ((λ h. absurd (eqb-false _ _ e h)), (eqb-false _ _ e, refl)) refl))
split-line end (suc n) (b ∷ lines) =
    let less : n ≡ suc n - 1 = omega arith in
    either (eqb b end)
    (λ e. rw e (split-line end n lines ∙ ap (λ k. line end k lines) less ∙ row 1 _ ((λ h. omega arith), eqb-true _ _ e) refl))
    (λ e. rw e (onto-more b n (slice_split (λ b. eqb b end) lines) ∙ split-line end (suc n) lines ∙ row 3 _ ((λ h. absurd (eqb-false _ _ e h)), (eqb-false _ _ e, ((λ h. omega arith), tt))) refl))

-- what `nth` and `unwrap_or` give of a split
pub nth-line : (end n : ℕ) (lines : List ℕ) (r : Option (Bor (List ℕ))) (x d : Bor (List ℕ)) → option_map (λ (y : Bor (List ℕ)). y.now) r ≡ slice_get (slice_split (λ b. eqb b end) lines) n → d.now ≡ [] → x ≡ unwrap_or r d → x.now ≡ line end n lines
nth-line end n lines r x d e f g =
    ap (λ (y : Bor (List ℕ)). y.now) g ∙ through r d ∙ rw (e, f) (unwrap_or-slice_get _ n []) ∙ split-line end n lines
  where
    through : (r : Option (Bor (List ℕ))) (d : Bor (List ℕ)) → (unwrap_or r d).now ≡ unwrap_or (option_map (λ (y : Bor (List ℕ)). y.now) r) d.now
    through None d = refl
    through (Some y) d = refl
