-- The end of a run of definitions over a list: its first records are those of the arrangement, in order, and the rest is as it was.
-- Assumes nothing.
use Prim.Native.Nat.{ℕ, ◌+◌, ◌-◌, ◌*◌, ◌/◌, ◌%◌, ◌≤◌, ◌<◌}
use mathlib.Core.Path.{◌≡◌, refl, ap, sym, ◌∙◌}
use mathlib.Core.List.{List, [], ◌∷◌, ◌++◌}
use native.Mathlib.Omega.{arith}
use native.Mathlib.Numerals.{add-one}
use borrow.Author.Tests.{ltb-true, ltb-false}
use lib.Dec.{ltb}
use lib.ListN.{length, get_or, set, drop, length-append, length-drop, get_or-append}
use lib.Seq.{get_or-append-add, get_or-drop, ext_get_or}
use Rattle.box_number.specs.Table.{◌=?◌, ◌and◌, otherwise, ◌⇒◌∣◌, table}
use Rattle.box_number.proofs.Rows.{row, each, either}
use Rattle.read_record.specs.declared.Span.{Span}
use Rattle.read_channels.specs.Definitions.{Def, definition, definitions, definitions_to}
use Rattle.picture_rules.specs.Edition.{marked_position}
use Rattle.picture_rules.specs.Order.{Arranged, define, run_definitions, arranged}
use Rattle.picture_rules.specs.Flat.{flat}
use Rattle.picture_rules.proofs.Flats.{flat-length, flat-number}
use Rattle.picture_order.specs.Flat.{number_at, reordered}
use Rattle.picture_order.specs.Private.Steps.{Exchanged, Agree, Asked, Does}
use Rattle.picture_order.specs.declared.positions.Ask.{Ask}
use Rattle.picture_rules.proofs.Exchange
use Rattle.picture_rules.proofs.Steps.{rows}

-- the marked position is one of two
marked-below : (edition2 n p q : ℕ) → p + 1 ≤ n → q + 1 ≤ n → marked_position edition2 p q + 1 ≤ n
unfolding marked_position
marked-below edition2 n p q hp hq = each (λ x. x + 1 ≤ n) _ ((λ _. hp), λ _. hq)

-- a position past the records keeps its numbers
module _ (edition2 n r k : ℕ) (h : n ≤ r) where
  unmarked : (p t v : ℕ) → p + 1 ≤ n → table (r =? p and k =? 12 ⇒ t ∣ otherwise v) ≡ v
  unmarked p t v i = sym (row 1 (r =? p and k =? 12 ⇒ t ∣ otherwise v) ((λ e. absurd (omega arith)), tt) refl)

  beyond : (d : Def) (a : Arranged) → (define edition2 n d a).records r k ≡ a.records r k
  unfolding define
  beyond d a =
      let p = a.seat d.channel in
      each (λ b. b.records r k ≡ a.records r k) (rows edition2 n d p a) (
        (λ _. refl),
        λ i. (
          (λ _. unmarked p _ _ i),
          λ j. ((λ _. refl), λ l. ((λ _. unmarked (marked_position edition2 p (d.asoc - 1)) _ _ (marked-below edition2 n p (d.asoc - 1) i (omega arith)) ∙ ap (λ x. a.records x k) (Exchange.other _ _ _ (omega arith) (omega arith))), (λ _. unmarked p _ _ i))),
        ),
      )

  beyond-run : (ds : List Def) (a : Arranged) → (run_definitions edition2 n ds a).records r k ≡ a.records r k
  unfolding run_definitions
  beyond-run [] a = refl
  beyond-run (d ∷ ds) a = beyond-run ds (define edition2 n d a) ∙ beyond d a

-- one definition more
run-last : (edition2 n : ℕ) (ds : List Def) (d : Def) (a : Arranged) → run_definitions edition2 n (ds ++ (d ∷ [])) a ≡ define edition2 n d (run_definitions edition2 n ds a)
unfolding run_definitions
run-last edition2 n [] d a = refl
run-last edition2 n (e ∷ ds) d a = run-last edition2 n ds d (define edition2 n e a)

-- what a definition asks is done
pub followed : (n edition2 : ℕ) {d : Def} {positions positions' l m' : List ℕ} (m : List ℕ) (r : Ask) → Asked n edition2 d positions r positions' → 13 * n ≤ length l → Exchanged r.i r.j l m → length m ≡ length l → m' ≡ set m (13 * r.i + 12) r.mark → Does n edition2 d l positions m' positions'
followed n edition2 {d} {positions} {positions'} {l} m r h room x e s = rw s (h.does l m room x e)

pub agree-more : (edition2 : ℕ) (f : List ℕ) (l : Span) (n i : ℕ) (records : ℕ → ℕ → ℕ) (recs positions : List ℕ) → Agree n recs positions (define edition2 n (definition f l i) (arranged edition2 n (definitions_to f l i) records)) → Agree n recs positions (arranged edition2 n (definitions_to f l (i + 1)) records)
unfolding definitions_to
agree-more edition2 f l n i records recs positions g = rw (add-one, run-last edition2 n (definitions_to f l i) (definition f l i)) g

pub whole : (edition2 : ℕ) (f : List ℕ) (cdef : Span) (n : ℕ) (l recs : List ℕ) → length recs ≡ length l → 13 * n ≤ length l → ((r k : ℕ) → k < 13 → (arranged edition2 n (definitions f cdef) (number_at l)).records r k ≡ number_at recs r k) → recs ≡ reordered edition2 f cdef n l
unfolding reordered
whole edition2 f cdef n l recs e room says =
    ext_get_or 0 recs (flat records (13 * n) ++ drop (13 * n) l)
    (simp (length-append, flat-length records (13 * n), length-drop) (omega arith))
    (λ i h. either (ltb i (13 * n)) (λ b. low i (ltb-true i (13 * n) b)) (λ b. high i (ltb-false i (13 * n) b)))
  where
    records : ℕ → ℕ → ℕ
    records = (arranged edition2 n (definitions f cdef) (number_at l)).records

    parts : (i : ℕ) → 13 * (i / 13) + i % 13 ≡ i
    parts i = omega arith

    here : (i : ℕ) → records (i / 13) (i % 13) ≡ get_or recs i 0
    here i = says (i / 13) (i % 13) (omega arith) ∙ ap (λ x. get_or recs x 0) (parts i)

    low : (i : ℕ) → i < 13 * n → get_or recs i 0 ≡ get_or (flat records (13 * n) ++ drop (13 * n) l) i 0
    low i h = sym (get_or-append (flat records (13 * n)) _ 0 i (omega (arith, flat-length records (13 * n))) ∙ flat-number records (13 * n) i h ∙ here i)

    rest : (i : ℕ) → 13 * n ≤ i → get_or (flat records (13 * n) ++ drop (13 * n) l) i 0 ≡ get_or l i 0
    rest i h =
        let a : i ≡ length (flat records (13 * n)) + (i - 13 * n) = omega (arith, flat-length records (13 * n)) in
        let b : 13 * n + (i - 13 * n) ≡ i = omega arith in
        ap (λ x. get_or (flat records (13 * n) ++ drop (13 * n) l) x 0) a ∙ get_or-append-add (flat records (13 * n)) _ (i - 13 * n) 0 ∙ get_or-drop (13 * n) l (i - 13 * n) 0
        ∙ ap (λ x. get_or l x 0) b

    high : (i : ℕ) → 13 * n ≤ i → get_or recs i 0 ≡ get_or (flat records (13 * n) ++ drop (13 * n) l) i 0
    high i h =
        sym (here i) ∙ beyond-run edition2 n (i / 13) (i % 13) (omega arith) (definitions f cdef) _ ∙ ap (λ x. get_or l x 0) (parts i)
        ∙ sym (rest i h)
