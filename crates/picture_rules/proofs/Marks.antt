-- Edition 2: wherever the record of a channel is, its mark is the typ of the channel's last definition that is not passed over. So the order of definitions that clash nowhere does not matter for marks either.
-- Assumes nothing.
use Prim.Native.Nat.{ℕ, zero, suc, ◌-◌, ◌<◌}
use mathlib.Core.Path.{◌≡◌, refl, ap, sym, ◌∙◌}
use mathlib.Core.Bool.{true, false}
use mathlib.Core.List.{List, [], ◌∷◌, ◌++◌}
use native.Mathlib.Omega.{arith}
use lib.ListN.{length}
use borrow.Author.Tests.{lt-ltb, ltb-true}
use Rattle.box_number.specs.Table.{Says, ◌=?◌, ◌≠?◌, ◌or◌, ◌and◌, otherwise, ◌⇒◌∣◌, table}
use Rattle.box_number.proofs.Rows.{row, each}
use Rattle.box_number.proofs.Indices.{decide}
use Rattle.read_channels.specs.Definitions.{Def}
use Rattle.picture_rules.specs.Definitions.{misnames, times, Reordered}
use Rattle.picture_rules.specs.Edition.{marked_position}
use Rattle.picture_rules.specs.Order.{Arranged, exchange, define, run_definitions, arranged}
use Rattle.picture_rules.specs.Rules.{Once, definition_at, LastFor, OrderMarks}
use Rattle.picture_rules.proofs.Exchange
use Rattle.picture_rules.proofs.Steps.{rows}
use Rattle.picture_rules.proofs.Counting.{first, later, apart, once-rest, taken, no_more}
use Rattle.picture_rules.proofs.Runs.{Matched, defined, start, only}

-- channel c's mark once definition d is run
abbrev marking : ℕ → Def → ℕ → ℕ → ℕ
marking n d c old = table (d.channel ≠? c or misnames n d ⇒ old ∣ otherwise d.typ)

-- and once a list is
unfoldable pub own_mark : ℕ → List Def → ℕ → ℕ → ℕ
own_mark n [] c old = old
own_mark n (d ∷ ds) c old = own_mark n ds c (marking n d c old)

-- the definition's own channel is marked
pub second-marked : (edition2 p q : ℕ) → (edition2 ≡ 0 → ⊥) → marked_position edition2 p q ≡ q
unfolding marked_position
second-marked edition2 p q second = sym (row 1 _ (second, tt) refl)

module _ (edition2 n : ℕ) (second : edition2 ≡ 0 → ⊥) (d : Def) (records : ℕ → ℕ → ℕ) (a : Arranged) (m : Matched n records a) (c : ℕ) where
  abbrev p : ℕ
  p = a.seat d.channel

  abbrev old : ℕ
  old = a.records (a.seat c) 12

  -- a channel with a position below n is below n
  below : p < n → d.channel < n
  below l = ltb-true d.channel n (sym (m.inside d.channel) ∙ lt-ltb p n l)

  above : d.channel < n → p < n
  above l = ltb-true p n (m.inside d.channel ∙ lt-ltb d.channel n l)

  -- it marks the record where its channel is, and is not passed over
  marks : Says false (misnames n d) → table (a.seat c =? p and 12 =? 12 ⇒ d.typ ∣ otherwise old) ≡ marking n d c old
  marks counts =
      decide (d.channel =? c)
      (λ y. sym (row 0 _ (ap a.seat (sym y), refl) refl) ∙ row 1 _ ((y, counts), tt) refl)
      (λ y. sym (row 1 _ ((λ z. absurd (y (only n records a m d.channel c (sym z)))), tt) refl) ∙ row 0 _ (λ z. absurd (y z)) refl)

  -- it comes to q with its record, and is marked there
  moves : (q : ℕ) → d.typ ≡ 0 → Says false (misnames n d) → table (exchange p q (a.seat c) =? q and 12 =? 12 ⇒ 0 ∣ otherwise (a.records (exchange p q (exchange p q (a.seat c))) 12)) ≡ marking n d c old
  moves q t counts =
      decide (d.channel =? c)
      (λ y. sym (row 0 _ (Exchange.first p q (a.seat c) (ap a.seat (sym y)), refl) refl) ∙ row 1 _ ((y, counts), tt) (sym t))
      (λ y. sym (row 1 _ ((λ z. absurd (y (only n records a m d.channel c (Exchange.only p q p (a.seat c) (Exchange.first p q p refl ∙ sym z))))), tt) refl)
      ∙ ap (λ x. a.records x 12) (Exchange.back p q (a.seat c)) ∙ row 0 _ (λ z. absurd (y z)) refl)

  defined-mark : (define edition2 n d a).records ((define edition2 n d a).seat c) 12 ≡ marking n d c old
  unfolding define
  defined-mark =
      each (λ (b : Arranged). b.records (b.seat c) 12 ≡ marking n d c old) (rows edition2 n d p a) (
        (λ i. row 0 _ (λ y l. absurd (omega (arith, above (omega arith)))) refl),
        λ i. (
          (λ e. marks (omega (arith, below (omega arith)), λ x y. absurd (y (e x)))),
          λ j. (
            (λ k. row 0 _ (λ y l. (j.0, (j.1, k))) refl),
            λ k. (
              (λ t. rw (second-marked edition2 p (d.asoc - 1) second) (moves (d.asoc - 1) t (omega (arith, below (omega arith)), λ _ _. k))),
              λ t. marks (omega (arith, below (omega arith)), λ _ _. k),
            ),
          ),
        ),
      )

ran_mark : (edition2 n : ℕ) → (edition2 ≡ 0 → ⊥) → (ds : List Def) (records : ℕ → ℕ → ℕ) (a : Arranged) → Matched n records a → (c : ℕ) → (run_definitions edition2 n ds a).records ((run_definitions edition2 n ds a).seat c) 12 ≡ own_mark n ds c (a.records (a.seat c) 12)
unfolding run_definitions own_mark
ran_mark edition2 n second [] records a m c = refl
ran_mark edition2 n second (d ∷ ds) records a m c = ran_mark edition2 n second ds records (define edition2 n d a) (defined edition2 n d records a m) c ∙ ap (own_mark n ds c) (defined-mark edition2 n second d records a m c)

-- the mark of channel c's record, wherever it is
pub own-mark : (edition2 n : ℕ) → (edition2 ≡ 0 → ⊥) → (ds : List Def) (records : ℕ → ℕ → ℕ) (c : ℕ) → let a = arranged edition2 n ds records in a.records (a.seat c) 12 ≡ own_mark n ds c (records c 12)
own-mark edition2 n second ds records c = ran_mark edition2 n second ds records _ (start n records) c

-- definitions that are passed over, or of other channels, mark nothing
unmarked : (n : ℕ) (ds : List Def) (c old : ℕ) → ((j : ℕ) → j < length ds → (definition_at ds j).channel ≡ c → Says true (misnames n (definition_at ds j))) → own_mark n ds c old ≡ old
unfolding own_mark
unmarked n [] c old over = refl
unmarked n (d ∷ ds) c old over = unmarked n ds c _ (λ j l. over (suc j) (omega arith)) ∙ sym (row 0 _ (over 0 (omega arith)) refl)

-- the last that counts gives the mark
last-marks : (n : ℕ) (ds : List Def) (c j old : ℕ) → LastFor n ds c j → own_mark n ds c old ≡ (definition_at ds j).typ
unfolding own_mark
last-marks n [] c j old h = absurd (omega (arith, h.below))
last-marks n (d ∷ ds) c zero old h =
    unmarked n ds c _ (λ i l. h.last (suc i) (omega arith) (omega arith)) ∙ sym (row 1 _ ((h.names, h.counts), tt) refl)
last-marks n (d ∷ ds) c (suc j) old h =
    last-marks n ds c j _ (record { below = omega (arith, h.below); names = h.names; counts = h.counts; last = λ i a b. h.last (suc i) (omega arith) (omega arith) })

pub order_marks : OrderMarks
order_marks =
    record {
      last = λ edition2 n ds records second c j h. own-mark edition2 n second ds records c ∙ last-marks n ds c j _ h;
      kept = λ edition2 n ds records second c over. own-mark edition2 n second ds records c ∙ unmarked n ds c _ over;
    }

-- definitions of other channels mark nothing
others : (n : ℕ) (ds : List Def) (c old : ℕ) → ((e : Def) → 0 < times e ds → e.channel ≡ c → ⊥) → own_mark n ds c old ≡ old
unfolding own_mark
others n [] c old f = refl
others n (d ∷ ds) c old f = others n ds c _ (λ e m. f e (later e d ds m)) ∙ sym (row 0 _ (λ z. absurd (f d (first d ds) z)) refl)

mark-append : (n : ℕ) (xs ys : List Def) (c old : ℕ) → own_mark n (xs ++ ys) c old ≡ own_mark n ys c (own_mark n xs c old)
unfolding own_mark
mark-append n [] ys c old = refl
mark-append n (x ∷ xs) ys c old = mark-append n xs ys c _

other-channel : (n : ℕ) (d : Def) (c old : ℕ) → (d.channel ≡ c → ⊥) → marking n d c old ≡ old
other-channel n d c old h = sym (row 0 _ (λ z. absurd (h z)) refl)

-- the same definitions in another order give the same mark, where none defines a channel twice
pub same-mark : (n : ℕ) (ds es : List Def) (c old : ℕ) → Once ds → Reordered ds es → own_mark n ds c old ≡ own_mark n es c old
unfolding own_mark
same-mark n [] es c old o r = rw (no_more es r)
same-mark n (d ∷ ds) es c old o r =
    let t = taken d ds es r in
    let xs = t.at.before in
    let ys = t.at.behind in
    let other : (e : Def) → 0 < times e xs → d.channel ≡ c → e.channel ≡ c → ⊥ = λ e m y z. (apart d ds o e (t.within e m)).0 (y ∙ sym z) in
    let turn : own_mark n xs c (marking n d c old) ≡ marking n d c (own_mark n xs c old) =
    decide (d.channel =? c)
    (λ y. others n xs c (marking n d c old) (λ e m. other e m y) ∙ ap (marking n d c) (sym (others n xs c old (λ e m. other e m y))))
    (λ y. ap (own_mark n xs c) (other-channel n d c old y) ∙ sym (other-channel n d c (own_mark n xs c old) y)) in
    same-mark n ds (xs ++ ys) c (marking n d c old) (once-rest d ds o) t.rest
    ∙ mark-append n xs ys c (marking n d c old)
    ∙ ap (own_mark n ys c) turn
    ∙ sym (ap (λ l. own_mark n l c old) t.at.whole ∙ mark-append n xs (d ∷ ys) c old)
