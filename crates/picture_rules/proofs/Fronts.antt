-- A list at the front of a destination.
-- Assumes nothing.
use Prim.Native.Nat.{ℕ, ◌+◌, ◌-◌}
use native.Mathlib.Omega.{arith}
use mathlib.Core.Path.{◌≡◌, refl, subst, ◌∙◌}
use lib.IntN.{ℤ, pos}
use lib.ListN.{length, get_or, drop, length-append, length-drop, get_or-append}
use lib.Seq.{get_or-drop, get_or-append-add}
use Rattle.picture_rules.specs.Image.{fronted, Fronting}
use Rattle.picture_rules.specs.Answers.{records_after, samples_after, DestinationsAfter}

pub fronting : (A : Type 0) → Fronting A
fronting A =
    record {
      front = λ xs d i none l. get_or-append xs (drop (length xs) d) none i l;
      behind = λ xs d i none l.
          let e : length xs + (i - length xs) ≡ i = omega arith in
          subst (λ (k : ℕ). get_or (fronted xs d) k none ≡ get_or d k none) e
          (get_or-append-add xs (drop (length xs) d) (i - length xs) none ∙ get_or-drop (length xs) d (i - length xs) none);
      long = λ xs d l. simp (length-append, length-drop) (omega arith);
    }

pub destinations_after : DestinationsAfter
unfolding records_after samples_after
destinations_after =
    record {
      numbers = λ planes d i l. (fronting ℕ).front planes.components d i 0 l;
      other-numbers = λ planes d i l. (fronting ℕ).behind planes.components d i 0 l;
      samples = λ planes d i l. (fronting ℤ).front planes.samples d i (pos 0) l;
      other-samples = λ planes d i l. (fronting ℤ).behind planes.samples d i (pos 0) l;
      refused = λ number place d e. (refl, refl);
    }
