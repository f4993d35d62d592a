-- Marked components: their count over the indices below n, and the first of them.
-- Assumes nothing.
use Rattle.std.proofs.Common.{◌≡◌, ℕ, zero, suc, ◌+◌, ◌<◌, Bool, true, false, cond, List, [], ◌∷◌, ◌++◌, map-id, refl, sym, ap, ◌∙◌, add-one, add-zero, arith}
use Rattle.std.specs.List.{range_with_len, count_by}
use Rattle.std.proofs.lemmas.List.FromFn.{map-range_with_len_more}
use Rattle.std.proofs.lemmas.List.Sums.{sum_by_push}
use Rattle.box_number.specs.Table.{Test, ◌≠?◌, holds}
use Rattle.box_number.proofs.Rows.{Says, row, shown}
use Rattle.box_number.proofs.Indices.{decide}
use Rattle.write_rules.specs.Request.{alpha_of}
use Rattle.write_rules.specs.Setup.{mark_count}

abbrev pub marked : List ℕ → ℕ → Test
marked comps c = alpha_of comps c ≠? 0

-- one more index, and a count over it
range-more : (n : ℕ) → range_with_len 0 (n + 1) ≡ range_with_len 0 n ++ n ∷ []
range-more n = sym (map-id (range_with_len 0 (n + 1))) ∙ map-range_with_len_more (λ x. x) 0 n n (omega arith) ∙ ap (λ (x : List ℕ). x ++ n ∷ []) (map-id (range_with_len 0 n))

count-more : (p : ℕ → Bool) (n k : ℕ) {b : Bool} → p n ≡ b → count_by p (range_with_len 0 n) ≡ k → count_by p (range_with_len 0 (n + 1)) ≡ k + cond b 1 0
count-more p n k q e = ap (count_by p) (range-more n) ∙ sum_by_push (λ x. cond (p x) 1 0) (range_with_len 0 n) n ∙ rw (q, e)

pub marks-counted : (comps : List ℕ) (n : ℕ) → count_by (λ c. holds (marked comps c)) (range_with_len 0 n) ≡ mark_count comps n
unfolding mark_count
marks-counted comps zero = refl
marks-counted comps (suc n) =
    let more = λ (b : Bool) (q : holds (marked comps n) ≡ b). ap (λ (k : ℕ). count_by (λ c. holds (marked comps c)) (range_with_len 0 k)) (sym (add-one n)) ∙ count-more (λ c. holds (marked comps c)) n (mark_count comps n) q (marks-counted comps n) in
    decide (marked comps n) (λ h. row 0 _ h (more true (shown true (marked comps n) h) ∙ add-one _)) (λ h. row 1 _ (h, tt) (more false (shown false (marked comps n) h) ∙ add-zero _))

-- where none is marked, none is counted
pub marks-none : (comps : List ℕ) (n : ℕ) → ((c : ℕ) → c < n → Says false (marked comps c)) → mark_count comps n ≡ 0
unfolding mark_count
marks-none comps zero h = refl
marks-none comps (suc n) h = sym (row 1 _ (h n (omega arith), tt) (sym (marks-none comps n (λ c l. h c (omega arith)))))
