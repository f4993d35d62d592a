-- The digits of a number are what std writes for it: of one below ten its digit, and of one from ten on those of a tenth of it, and the last.
-- Assumes nothing.
use Rattle.std.proofs.Common.{◌≡◌, ℕ, zero, suc, ◌+◌, ◌/◌, ◌%◌, ◌<◌, ◌≤◌, ◌^◌, List, [], ◌∷◌, ◌++◌, refl, sym, ap, ◌∙◌, arith, ltb, ltb-true, ltb-false}
use Rattle.std.specs.Fmt as fmt
use Rattle.std.proofs.lemmas.Fmt.{AppendsLastDigit, decimal_from_appends, length-decimal-le_succ}
use Rattle.box_number.proofs.Rows.{row, either}
use Rattle.text.specs.Text.{digits, decimal}

appends : AppendsLastDigit digits
unfolding digits
appends = record {
  one = λ k n h. let m : n % 10 ≡ n = omega arith in rw m (ap (λ (x : List ℕ). x ++ ((48 + n) ∷ [])) (sym (row 0 _ h refl)));
  more = λ k n h. ap (λ (x : List ℕ). x ++ ((48 + n % 10) ∷ [])) (sym (row 1 _ (h, tt) refl));
}

pub decimal-std : (n : ℕ) → n < 2 ^ 64 → decimal n ≡ fmt.decimal n
unfolding decimal
decimal-std n h = decimal_from_appends digits appends (suc n) n h (let l = length-decimal-le_succ n h in omega arith)

-- the count of the digits that are tried does not matter
enough : (fuel more n : ℕ) → n < fuel → n < more → digits fuel n ≡ digits more n
unfolding digits
enough zero more n h k = absurd (omega arith)
enough (suc fuel) zero n h k = absurd (omega arith)
enough (suc fuel) (suc more) n h k =
    either (ltb n 10)
    (λ b. let l : n < 10 = ltb-true _ _ b in appends.one fuel n l ∙ sym (appends.one more n l))
    (λ b.
    let l : 10 ≤ n = ltb-false _ _ b in
    let e : digits fuel (n / 10) ≡ digits more (n / 10) = enough fuel more (n / 10) (omega arith) (omega arith) in
    appends.more fuel n l ∙ ap (λ (x : List ℕ). x ++ ((48 + n % 10) ∷ [])) e ∙ sym (appends.more more n l))

pub decimal-one : (n : ℕ) → n < 10 → (48 + n) ∷ [] ≡ decimal n
unfolding decimal
decimal-one n h = sym (appends.one n n h)

pub decimal-more : (n : ℕ) → 10 ≤ n → decimal (n / 10) ++ ((48 + n % 10) ∷ []) ≡ decimal n
unfolding decimal
decimal-more n l =
    let e : digits (suc (n / 10)) (n / 10) ≡ digits n (n / 10) = enough (suc (n / 10)) n (n / 10) (omega arith) (omega arith) in
    ap (λ (x : List ℕ). x ++ ((48 + n % 10) ∷ [])) e ∙ sym (appends.more n n l)
