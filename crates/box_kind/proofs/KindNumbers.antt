-- Kinds and their numbers, both ways, and the kinds of the last arm of a `match`.
-- Assumes nothing.
use Prim.Native.Nat.{ℕ}
use mathlib.Core.Path.{◌≡◌, refl, sym, ap, ◌∙◌}
use Rattle.box_number.specs.Table.{table}
use Rattle.box_kind.specs.Kind.{kind_of, number_of, Proper, KindsAndNumbers}
use Rattle.box_kind.specs.declared.Jp2BoxType.{Jp2BoxType}
use Rattle.box_kind.specs.declared.Jp2BoxType.TheVariants.{None, JPIP, JP, FTYP, JP2H, IHDR, COLR, JP2C, URL, PCLR, CMAP, CDEF, DTBL, BPCC, JP2, RES, JP2I, XML, UUID, UINF, Unknown}
use Rattle.box_number.proofs.Rows.{row, each}

number_back : (n : ℕ) → number_of (kind_of n) ≡ n
unfolding kind_of
number_back n = each (λ (k : Jp2BoxType). number_of k ≡ n) _ (sym, λ _. (sym, λ _. (sym, λ _. (sym, λ _. (sym, λ _. (sym, λ _. (sym, λ _. (sym, λ _. (sym, λ _. (sym, λ _. (sym, λ _. (sym, λ _. (sym, λ _. (sym, λ _. (sym, λ _. (sym, λ _. (sym, λ _. (sym, λ _. (sym, λ _. refl)))))))))))))))))))

kind_back : (k : Jp2BoxType) → Proper k → kind_of (number_of k) ≡ k
unfolding kind_of table
kind_back None p = absurd p
kind_back JPIP p = refl
kind_back JP p = refl
kind_back FTYP p = refl
kind_back JP2H p = refl
kind_back IHDR p = refl
kind_back COLR p = refl
kind_back JP2C p = refl
kind_back URL p = refl
kind_back PCLR p = refl
kind_back CMAP p = refl
kind_back CDEF p = refl
kind_back DTBL p = refl
kind_back BPCC p = refl
kind_back JP2 p = refl
kind_back RES p = refl
kind_back JP2I p = refl
kind_back XML p = refl
kind_back UUID p = refl
kind_back UINF p = refl
kind_back (Unknown n) p = p

proper : (n : ℕ) → Proper (kind_of n)
unfolding kind_of
proper n = each Proper _ (λ _. tt, λ h₀. (λ _. tt, λ h₁. (λ _. tt, λ h₂. (λ _. tt, λ h₃. (λ _. tt, λ h₄. (λ _. tt, λ h₅. (λ _. tt, λ h₆. (λ _. tt, λ h₇. (λ _. tt, λ h₈. (λ _. tt, λ h₉. (λ _. tt, λ h₁₀. (λ _. tt, λ h₁₁. (λ _. tt, λ h₁₂. (λ _. tt, λ h₁₃. (λ _. tt, λ h₁₄. (λ _. tt, λ h₁₅. (λ _. tt, λ h₁₆. (λ _. tt, λ h₁₇. (λ _. tt, λ h₁₈. sym (row 19 _ (h₀, (h₁, (h₂, (h₃, (h₄, (h₅, (h₆, (h₇, (h₈, (h₉, (h₁₀, (h₁₁, (h₁₂, (h₁₃, (h₁₄, (h₁₅, (h₁₆, (h₁₇, (h₁₈, tt))))))))))))))))))) refl))))))))))))))))))))

pub kinds_and_numbers : KindsAndNumbers
kinds_and_numbers =
    record {
      number_back = number_back;
      kind_back = kind_back;
      proper = proper;
      same_kind = λ k l p q e. sym (kind_back k p) ∙ ap kind_of e ∙ kind_back l q;
    }
