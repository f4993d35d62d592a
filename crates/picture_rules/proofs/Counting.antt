-- How often a definition occurs in a list: where it is counted, it occurs, and the list falls into what is before and after it.
-- Assumes nothing.
use Prim.Native.Nat.{ℕ, suc, ◌+◌, ◌<◌}
use mathlib.Core.Path.{◌≡◌, refl, ap, sym, ◌∙◌}
use mathlib.Core.Bool.{Bool, true, false}
use mathlib.Core.List.{List, [], ◌∷◌, ◌++◌}
use mathlib.Core.Logic.{◌⊎◌, inl, inr}
use native.Mathlib.Omega.{arith}
use lib.ListN.{length, get_or}
use Rattle.box_number.specs.Table.{Test, ◌=?◌, ◌and◌, pick}
use Rattle.box_number.proofs.Rows.{said, shown, either}
use Rattle.read_channels.specs.Definitions.{Def, def}
use Rattle.picture_rules.specs.Definitions.{same, times, Reordered}
use Rattle.picture_rules.specs.Rules.{Once}
use Rattle.picture_rules.proofs.Steps.{Apart}

abbrev alike : Def → Def → Test
alike d e = (d.channel =? e.channel and d.typ =? e.typ) and d.asoc =? e.asoc

same_itself : (d : Def) → same d d ≡ true
unfolding same
same_itself d = shown true (alike d d) ((refl, refl), refl)

same-equal : (d e : Def) → same d e ≡ true → d ≡ e
unfolding same
same-equal d e h =
    let s = said true (alike d e) h in
    λ i. def (s.0.0 i) (s.0.1 i) (s.1 i)

pub first : (d : Def) (ds : List Def) → 0 < times d (d ∷ ds)
unfolding times
first d ds = rw (same_itself d) (omega arith)

pub later : (d e : Def) (ds : List Def) → 0 < times d ds → 0 < times d (e ∷ ds)
unfolding times
later d e ds h = either (same d e) (λ b. rw b (omega arith)) (λ b. rw b h)

pub found : (d e : Def) (ds : List Def) → 0 < times d (e ∷ ds) → (d ≡ e) ⊎ (0 < times d ds)
unfolding times
found d e ds h = either (same d e) (λ b. inl (same-equal d e b)) (λ b. inr (rw b at h))

-- a definition that occurs in a list has a place in it
index : (d : Def) (ds : List Def) → 0 < times d ds → (j : ℕ) × (j < length ds) × (get_or ds j (def 0 0 0) ≡ d)
unfolding times
index d [] m = absurd (omega arith)
index d (e ∷ ds) m = go (found d e ds m) (index d ds)
  where
    go : (d ≡ e) ⊎ (0 < times d ds) → (0 < times d ds → (j : ℕ) × (j < length ds) × (get_or ds j (def 0 0 0) ≡ d)) → (j : ℕ) × (j < suc (length ds)) × (get_or (e ∷ ds) j (def 0 0 0) ≡ d)
    go (inl k) f = (0, omega arith, sym k)
    go (inr l) f = let t = f l in (suc t.0, omega (arith, t.1), t.2)

-- where no channel and no colour number is given twice, the first definition is apart from every later one
pub apart : (d : Def) (ds : List Def) → Once (d ∷ ds) → (e : Def) → 0 < times e ds → Apart d e
apart d ds o e m = let t = index e ds m in rw t.2 at (o 0 (suc t.0) (omega arith) (omega (arith, t.1)))

pub once-rest : (d : Def) (ds : List Def) → Once (d ∷ ds) → Once ds
once-rest d ds o i j a b = o (suc i) (suc j) (omega arith) (omega arith)

-- before and after a definition that occurs in a list
pub record Parts (d : Def) (ds : List Def) : Type 0 where
  pub before : List Def
  pub behind : List Def
  pub whole : ds ≡ before ++ d ∷ behind

parts : (d : Def) (ds : List Def) → 0 < times d ds → Parts d ds
unfolding times
parts d [] m = absurd (omega arith)
parts d (e ∷ ds) m = go (found d e ds m) (parts d ds)
  where
    go : (d ≡ e) ⊎ (0 < times d ds) → (0 < times d ds → Parts d ds) → Parts d (e ∷ ds)
    go (inl k) f = record { before = []; behind = ds; whole = rw k }
    go (inr l) f = record { before = e ∷ (f l).before; behind = (f l).behind; whole = ap (λ es. e ∷ es) (f l).whole }

times-append : (d : Def) (xs ys : List Def) → times d (xs ++ ys) ≡ times d xs + times d ys
unfolding times
times-append d [] ys = omega arith
times-append d (x ∷ xs) ys = go (same d x) (times-append d xs ys)
  where
    go : (b : Bool) → times d (xs ++ ys) ≡ times d xs + times d ys → pick b (suc (times d (xs ++ ys))) (times d (xs ++ ys)) ≡ pick b (suc (times d xs)) (times d xs) + times d ys
    go true e = omega arith
    go false e = e

-- a list with the definitions of d ∷ ds, each as often: d occurs in it, and the rest are those of ds
pub record Taken (d : Def) (ds es : List Def) : Type 0 where
  pub at : Parts d es
  pub rest : Reordered ds (at.before ++ at.behind)
  pub within : (e : Def) → 0 < times e at.before → 0 < times e ds

pub taken : (d : Def) (ds es : List Def) → Reordered (d ∷ ds) es → Taken d ds es
unfolding times
taken d ds es r = record { at = p; rest = rest; within = λ e m. omega (arith, rest e, times-append e p.before p.behind) }
  where
    p : Parts d es
    p = parts d es (rw (r d) at (first d ds))

    less : (b : Bool) (a x y : ℕ) → pick b (suc a) a ≡ x + pick b (suc y) y → a ≡ x + y
    less true a x y e = omega arith
    less false a x y e = e

    rest : Reordered ds (p.before ++ p.behind)
    rest g =
        less (same g d) (times g ds) (times g p.before) (times g p.behind) (r g ∙ ap (times g) p.whole ∙ times-append g p.before (d ∷ p.behind))
        ∙ sym (times-append g p.before p.behind)

pub no_more : (es : List Def) → Reordered [] es → es ≡ []
unfolding times
no_more [] r = refl
no_more (e ∷ es) r = absurd (omega (arith, r e, first e es))
