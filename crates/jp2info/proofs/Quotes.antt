-- A text that is quoted from its front on.
-- Assumes nothing.
use Prim.Native.Nat.{ℕ, zero, suc, ◌-◌, ◌≤◌, ◌<◌}
use native.Mathlib.Omega.{arith}
use mathlib.Core.Path.{◌≡◌, refl, sym}
use mathlib.Core.Bool.{Bool}
use mathlib.Core.List.{List, [], ◌++◌}
use lib.ListN.{length, take, drop, length-drop}
use Rattle.box_number.proofs.Rows.{row, each}
use Rattle.box_number.proofs.Numbers.{rest-is}
use Rattle.jp2info.specs.Quote.{together, first_character, quotes, quoted}
use Rattle.text.proofs.Puts.{Puts, Left, start, turn, done}
use Rattle.jp2info.proofs.Utf8s.{character-fits}

pub together_some : (s : List ℕ) → 0 < together s
unfolding together
together_some s = each (λ (n : ℕ). 0 < n) _ ((λ t. omega arith), λ f. omega arith)

pub together_fits : (s : List ℕ) → 0 < length s → together s ≤ length s
unfolding together
together_fits s h = each (λ (n : ℕ). n ≤ length s) _ ((λ t. character-fits s), λ f. omega arith)

pub rest_less : (s : List ℕ) (n : ℕ) → n ≡ together s → 0 < length s → length (take (length s - n) (drop n s)) < length s
rest_less s n t h = let some = together_some s in rw (rest-is s n, length-drop) (omega arith)

quotes-turn : (fuel : ℕ) (json : Bool) (s : List ℕ) → 0 < length s → quotes (suc fuel) json s ≡ first_character json (together s) s ++ quotes fuel json (drop (together s) s)
unfolding quotes
quotes-turn fuel json s h = sym (row 1 _ (omega arith) refl)

quotes-none : (fuel : ℕ) (json : Bool) (s : List ℕ) → length s ≡ 0 → quotes fuel json s ≡ []
unfolding quotes
quotes-none zero json s h = refl
quotes-none (suc fuel) json s h = sym (row 0 _ h refl)

-- what is left of the text, quoted from here on, gives the same as the whole text
pub record Going (d₀ : List ℕ) (at : ℕ) (whole : List ℕ) (json : Bool) (d : List ℕ) (k : ℕ) (rest : List ℕ) : Type 0 where
  pub fuel : ℕ
  pub enough : length rest ≤ fuel
  pub left : Left d₀ at whole d k (quotes fuel json rest)

pub going_start : (d : List ℕ) (at : ℕ) (json : Bool) (s : List ℕ) → Going d at (quoted json s) json d at s
unfolding quoted
going_start d at json s = record { fuel = length s; enough = omega arith; left = start d at _ }

module _ {d₀ : List ℕ} {at : ℕ} {whole : List ℕ} {json : Bool} {d : List ℕ} {k : ℕ} {rest : List ℕ} (g : Going d₀ at whole json d k rest) where
  pub going_turn : (n : ℕ) {e : List ℕ} {m : ℕ} → n ≡ together rest → 0 < length rest → Puts d k (first_character json n rest) e m
      → Going d₀ at whole json e m (take (length rest - n) (drop n rest))
  going_turn n {e} {m} t h p = rw (rest-is rest n, t) (go g.fuel g.enough g.left)
    where
      go : (fuel : ℕ) → length rest ≤ fuel → Left d₀ at whole d k (quotes fuel json rest) → Going d₀ at whole json e m (drop (together rest) rest)
      go zero l q = absurd (omega arith)
      go (suc fuel) l q =
          let some = together_some rest in
          record { fuel = fuel; enough = rw length-drop (omega arith); left = turn _ q (quotes-turn fuel json rest h) (rw t at p) }

  pub going_end : length rest ≡ 0 → Puts d₀ at whole d k
  going_end h = done g.left (quotes-none g.fuel json rest h)
