-- Definitions that differ pairwise clash nowhere; two of them exchanged are the same definitions; files that are equal before and after a range are alike.
-- Assumes nothing.
use Prim.Native.Nat.{ℕ, zero, suc, ◌+◌, ◌-◌, ◌≤◌, ◌<◌}
use mathlib.Core.Path.{◌≡◌, refl, sym, ap, subst, ◌∙◌}
use mathlib.Core.Bool.{Bool, true, false}
use mathlib.Core.List.{List, [], ◌∷◌}
use native.Mathlib.Omega.{arith}
use lib.ListN.{length, get_or, take, drop}
use lib.Seq.{get_or-take, get_or-drop}
use Rattle.box_number.specs.Table.{◌<?◌, pick}
use Rattle.read_rules.specs.Range.{range}
use Rattle.read_rules.specs.Alike.{Alike}
use Rattle.read_channels.specs.Definitions.{Def, def}
use Rattle.picture_rules.specs.Definitions.{Colour, same, times, Reordered}
use Rattle.picture_rules.specs.Rules.{Once}
use Rattle.box_number.proofs.Indices.{decide}

-- what two definitions of one list may not do
abbrev pub Differ : Def → Def → Type 0
Differ d e = (d.channel ≡ e.channel → ⊥) × (Colour d → Colour e → d.asoc ≡ e.asoc → ⊥)

abbrev pub DifferAll : Def → List Def → Type 0
DifferAll d [] = Unit
DifferAll d (e ∷ es) = Differ d e × DifferAll d es

abbrev pub DifferPairwise : List Def → Type 0
DifferPairwise [] = Unit
DifferPairwise (d ∷ ds) = DifferAll d ds × DifferPairwise ds

differ-at : (d : Def) (es : List Def) → DifferAll d es → (j : ℕ) → j < length es → Differ d (get_or es j (def 0 0 0))
differ-at d [] h j l = absurd (omega arith)
differ-at d (e ∷ es) h zero l = h.0
differ-at d (e ∷ es) h (suc j) l = differ-at d es h.1 j (omega arith)

pub once-pairwise : (ds : List Def) → DifferPairwise ds → Once ds
once-pairwise [] h i j l b = absurd (omega arith)
once-pairwise (d ∷ ds) h i zero l b = absurd (omega arith)
once-pairwise (d ∷ ds) h zero (suc j) l b = differ-at d ds h.0 j (omega arith)
once-pairwise (d ∷ ds) h (suc i) (suc j) l b = once-pairwise ds h.1 i j (omega arith) (omega arith)

swap_picks : (a b : Bool) (n : ℕ) → pick a (suc (pick b (suc n) n)) (pick b (suc n) n) ≡ pick b (suc (pick a (suc n) n)) (pick a (suc n) n)
swap_picks true true n = refl
swap_picks true false n = refl
swap_picks false true n = refl
swap_picks false false n = refl

pub swapped : (d e : Def) (es : List Def) → Reordered (d ∷ e ∷ es) (e ∷ d ∷ es)
unfolding times
swapped d e es x = swap_picks (same x d) (same x e) (times x es)

module _ (f g : List ℕ) (p n : ℕ) (before : take p g ≡ take p f) (after : drop (p + n) g ≡ drop (p + n) f) where
  before_same : (i : ℕ) → i < p → get_or g i 0 ≡ get_or f i 0
  before_same i b = sym (get_or-take p g i 0 b) ∙ ap (λ x. get_or x i 0) before ∙ get_or-take p f i 0 b

  after_same : (i : ℕ) → p + n ≤ i → get_or g i 0 ≡ get_or f i 0
  after_same i b =
      let k = i - (p + n) in
      let e : p + n + k ≡ i = omega arith in
      subst (λ i. get_or g i 0 ≡ get_or f i 0) e (sym (get_or-drop (p + n) g k 0) ∙ ap (λ x. get_or x k 0) after ∙ get_or-drop (p + n) f k 0)

  pub alike-parts : length g ≡ length f → Alike f g (range p n)
  alike-parts long = record { long = long; outside = λ i l out. decide (i <? p) (before_same i) (λ b. decide (i <? p + n) (λ c. absurd (out (b, c))) (after_same i)) }
