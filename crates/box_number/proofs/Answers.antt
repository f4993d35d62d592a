-- A test and the Bool that it computes to: what is known of the numbers gives the Bool, and the Bool gives what is known.
-- Assumes nothing.
use mathlib.Core.Path.{◌≡◌, refl, sym, ◌∙◌}
use mathlib.Core.Bool.{Bool, true, false, ◌||◌}
use Rattle.box_number.specs.Table.{Test, ◌or◌, holds}
use Rattle.box_number.proofs.Rows.{Says, true_false}
use Rattle.box_number.proofs.Rows as rows

-- the laws of box_number, the other way round, as an answer's equation has it
pub shown : (b : Bool) (t : Test) → Says b t → b ≡ holds t
shown b t h = sym (rows.shown b t h)

pub said : (b : Bool) (t : Test) → b ≡ holds t → Says b t
said b t e = rows.said b t (sym e)

-- one test holds where the other does
pub same : (s t : Test) → (Says true s → Says true t) → (Says false s → Says false t) → holds s ≡ holds t
same s t f g = go (holds s) refl
  where
    go : (b : Bool) → b ≡ holds s → b ≡ holds t
    go true e = shown true t (f (said true s e))
    go false e = shown false t (g (said false s e))

module _ (s t : Test) {b : Bool} (e : b ≡ holds s) where
  -- a test that was asked first decides where it holds
  pub or_taken : b ≡ true → true ≡ holds (s or t)
  or_taken h = go (holds s) (sym h ∙ e)
    where
      go : (x : Bool) → true ≡ x → true ≡ (x || holds t)
      go true z = refl
      go false z = true_false z

  -- and the second where it fails
  pub or_left : {r : Bool} → b ≡ false → r ≡ holds t → r ≡ holds (s or t)
  or_left {r} h d = go (holds s) (sym h ∙ e)
    where
      go : (x : Bool) → false ≡ x → r ≡ (x || holds t)
      go true z = true_false (sym z)
      go false z = d
