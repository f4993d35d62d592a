-- Arrangements that are alike below n stay so, marks too: the positions of channels do not depend on records, and an exchange keeps positions below n.
-- Assumes nothing.
use Prim.Native.Nat.{ℕ, ◌-◌, ◌<◌}
use mathlib.Core.Path.{◌≡◌, refl, ap, sym}
use mathlib.Core.List.{List, [], ◌∷◌}
use native.Mathlib.Omega.{arith}
use Rattle.box_number.specs.Table.{◌=?◌, ◌and◌, otherwise, ◌⇒◌∣◌, table}
use Rattle.box_number.proofs.Rows.{each}
use Rattle.read_channels.specs.Definitions.{Def}
use Rattle.picture_rules.specs.Edition.{marked_position}
use Rattle.picture_rules.specs.Order.{Arranged, exchange, swapped, marked, define, run_definitions, arranged}
use Rattle.picture_rules.proofs.Exchange
use Rattle.picture_rules.proofs.Steps.{rows, by_row}

-- every channel is at the same position, and positions below n have the same records
record Alike (n : ℕ) (a b : Arranged) : Type 0 where
  seats : (c : ℕ) → a.seat c ≡ b.seat c
  stands : (p k : ℕ) → p < n → k < 13 → a.records p k ≡ b.records p k

module _ (edition2 n : ℕ) where
  marked-alike : (p t : ℕ) {a b : Arranged} → Alike n a b → Alike n (marked p t a) (marked p t b)
  marked-alike p t e = record { seats = e.seats; stands = λ r k h l. ap (λ x. table (r =? p and k =? 12 ⇒ t ∣ otherwise x)) (e.stands r k h l) }

  swapped-alike : (p q : ℕ) {a b : Arranged} → p < n → q < n → Alike n a b → Alike n (swapped p q a) (swapped p q b)
  swapped-alike p q hp hq e =
      record { seats = λ c. ap (exchange p q) (e.seats c); stands = λ r k h l. e.stands (exchange p q r) k (Exchange.below n p q hp hq r h) l }

  -- both meet the same row, since the channel is at the same position
  define-alike : (d : Def) (a b : Arranged) → Alike n a b → Alike n (define edition2 n d a) (define edition2 n d b)
  unfolding define
  define-alike d a b e =
      let p = a.seat d.channel in
      let there = sym (e.seats d.channel) in
      each (λ x. Alike n x (define edition2 n d b)) (rows edition2 n d p a) (
        (λ h. by_row 0 edition2 n d p b (Alike n _) there h e),
        λ i. (
          (λ h. by_row 1 edition2 n d p b (Alike n _) there (i, h) (marked-alike p d.typ e)),
          λ j. (
            (λ h. by_row 2 edition2 n d p b (Alike n _) there (i, (j, h)) e),
            λ k. (
              (λ h. by_row 3 edition2 n d p b (Alike n _) there (i, (j, (k, h))) (marked-alike (marked_position edition2 p (d.asoc - 1)) 0 (swapped-alike p (d.asoc - 1) (omega arith) (omega arith) e))),
              λ h. by_row 4 edition2 n d p b (Alike n _) there (i, (j, (k, (h, tt)))) (marked-alike p d.typ e),
            ),
          ),
        ),
      )

  run-alike : (ds : List Def) (a b : Arranged) → Alike n a b → Alike n (run_definitions edition2 n ds a) (run_definitions edition2 n ds b)
  unfolding run_definitions
  run-alike [] a b e = e
  run-alike (d ∷ ds) a b e = run-alike ds (define edition2 n d a) (define edition2 n d b) (define-alike d a b e)

-- records that are the same below n are put in the same order
pub arranged-alike : (edition2 n : ℕ) (ds : List Def) (r s : ℕ → ℕ → ℕ) → ((p k : ℕ) → p < n → k < 13 → r p k ≡ s p k) → (p k : ℕ) → p < n → k < 13 → (arranged edition2 n ds r).records p k ≡ (arranged edition2 n ds s).records p k
arranged-alike edition2 n ds r s e = (run-alike edition2 n ds _ _ (record { seats = λ c. refl; stands = e })).stands
