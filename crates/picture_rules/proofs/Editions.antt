-- Edition 1 is what it was; any flag but 0 is edition 2, and what it accepts edition 1 accepts, marks aside with the same planes.
-- Assumes nothing.
use Prim.Native.Nat.{ℕ, ◌+◌, ◌-◌, ◌*◌}
use mathlib.Core.Path.{◌≡◌, refl, sym, ap, subst, ◌∙◌}
use mathlib.Core.Bool.{true, false}
use mathlib.Core.List.{List, [], ◌∷◌}
use native.Mathlib.Omega.{arith}
use Rattle.box_number.specs.Table.{Test, Says, ◌=?◌, ◌≠?◌, ◌<?◌, ◌and◌, holds, table}
use Rattle.box_number.specs.Lowest.{lowest}
use Rattle.box_number.proofs.Rows.{not_both, said, shown, either, row}
use Rattle.read_record.specs.declared.Span.{Span}
use Rattle.read_record.specs.declared.Jp2.{Jp2}
use Rattle.read_channels.specs.Cdef.{Cn}
use Rattle.read_channels.specs.Definitions.{Def, definitions}
use Rattle.picture_rules.specs.Edition.{marked_position, least_counted, order_free_numbers}
use Rattle.picture_rules.specs.Order.{Arranged, define, run_definitions, arranged}
use Rattle.picture_rules.specs.Flat.{flat}
use Rattle.picture_rules.specs.Check.{undefined}
use Rattle.picture_rules.specs.Image.{Image, image}
use Rattle.picture_rules.specs.Handed.{Handed}
use Rattle.picture_rules.specs.Channels.{channels}
use Rattle.picture_rules.specs.Samples.{packed}
use Rattle.picture_rules.specs.Finish.{Finishing, declined, counted, expanded, picture, fitted, colour_checks, checks, finish}
use Rattle.picture_rules.specs.OrderFreedom.{SamePlanes}
use Rattle.picture_rules.specs.Editions.{with_edition, FirstEdition, SecondEdition}
use Rattle.picture_rules.proofs.Flats.{flat-at}
use Rattle.picture_rules.proofs.Marks.{second-marked}
use Rattle.picture_rules.proofs.Rules.{order_free, same-places}
use Rattle.picture_rules.proofs.Checks.{Checked, passed, passes, made}

-- tests that hold together are alike
same_test : (s t : Test) → (Says true s → Says true t) → (Says true t → Says true s) → holds s ≡ holds t
same_test s t there back =
    either (holds t) (λ u. shown true s (back (said true t u)) ∙ sym u) (λ u. either (holds s) (λ e. absurd (not_both t (there (said true s e)) (said false t u))) (λ e. e ∙ sym u))

pub first-edition : FirstEdition
unfolding define marked_position least_counted order_free_numbers table
first-edition =
    record {
      defines = λ n d a. refl;
      counts = λ f l c. same_test (undefined 0 f l c) (l.count ≠? 0 and 0 <? c and lowest (λ j. Cn f l j =? c) l.count =? l.count) (λ h. (h.0, (omega (arith, h.1.0), h.1.1))) (λ h. (h.0, (omega (arith, h.1.0), h.1.1)));
      order_free = order_free 0;
      same-planes = λ planes others same. same.records;
    }

-- any flag but 0 is as good as 1
module _ (edition2 : ℕ) (second : edition2 ≡ 0 → ⊥) where
  same-marked : (p q : ℕ) → marked_position edition2 p q ≡ marked_position 1 p q
  same-marked p q = second-marked edition2 p q second ∙ sym (second-marked 1 p q (λ e. absurd (omega arith)))

  same-least : least_counted edition2 ≡ least_counted 1
  unfolding least_counted
  same-least = sym (row 1 _ (second, tt) refl) ∙ row 1 _ ((λ e. absurd (omega arith)), tt) refl

  same-define : (n : ℕ) (d : Def) (a : Arranged) → define edition2 n d a ≡ define 1 n d a
  unfolding define
  same-define n d a = rw (same-marked (a.seat d.channel) (d.asoc - 1))

  same-run : (n : ℕ) (ds : List Def) (a : Arranged) → run_definitions edition2 n ds a ≡ run_definitions 1 n ds a
  unfolding run_definitions
  same-run n [] a = refl
  same-run n (d ∷ ds) a = rw (same-define n d a) (same-run n ds (define 1 n d a))

  same-picture : (f : List ℕ) (m : Jp2) (i : Image) → picture edition2 f m i ≡ picture 1 f m i
  unfolding picture
  same-picture f m i =
      let n = channels m i.count in
      ap (λ (a : Arranged). image (flat a.records (13 * n)) n (packed f m i n)) (same-run n (definitions f m.lists.cdef) _)

  same-fitted : (f : List ℕ) (m : Jp2) (i : Image) (records samples : ℕ) → fitted edition2 f m i records samples ≡ fitted 1 f m i records samples
  unfolding fitted
  same-fitted f m i records samples = rw (same-picture f m i)

  same-lacking : (f : List ℕ) (l : Span) (n : ℕ) → lowest (undefined edition2 f l) n ≡ lowest (undefined 1 f l) n
  same-lacking f l n = ap (λ least. lowest (λ c. l.count ≠? 0 and least <? c + 1 and lowest (λ j. Cn f l j =? c) l.count =? l.count) n) same-least

  same-checks : (f : List ℕ) (m : Jp2) (i : Image) (next : Finishing) → colour_checks declined edition2 f m i next ≡ colour_checks declined 1 f m i next
  unfolding colour_checks
  same-checks f m i next = rw (same-lacking f m.lists.cdef (channels m i.count))

  any_flag : (h : Handed) (m : Jp2) → finish (with_edition edition2 h) m ≡ finish (with_edition 1 h) m
  unfolding finish checks counted
  any_flag h m =
      let k = counted h.settings m in
      rw (same-fitted h.file k h.image h.records h.samples, same-checks h.file k h.image (fitted 1 h.file k h.image h.records h.samples))

-- a channel that edition 2 passes edition 1 passes
passes-first : (f : List ℕ) (l : Span) (c : ℕ) → Says false (undefined 1 f l c) → Says false (undefined 0 f l c)
unfolding least_counted table
passes-first f l c defined some least = defined some (omega arith)

module _ (h : Handed) (m : Jp2) where
  checked-first : Checked (with_edition 1 h) m → Checked (with_edition 0 h) m
  checked-first c =
      record {
        named = c.named;
        defined = λ x l. passes-first h.file m.lists.cdef x (c.defined x l);
        mapping = c.mapping;
        lent = c.lent;
        record_room = c.record_room;
        most = c.most;
        sample-room = c.sample-room;
      }

  planes-first : SamePlanes 0 (made (with_edition 1 h) m) (made (with_edition 0 h) m)
  unfolding picture order_free_numbers table
  planes-first =
      let n = channels m h.image.count in
      let ds = definitions h.file m.lists.cdef in
      let records = expanded h.file m h.image in
      record {
        count = refl;
        records = λ p k b l.
            flat-at (arranged 0 n ds records).records n p k b (omega arith) ∙ same-places 0 1 n ds records p k l ∙ sym (flat-at (arranged 1 n ds records).records n p k b (omega arith));
        samples = refl;
      }

pub second-edition : SecondEdition
unfolding define marked_position least_counted order_free_numbers table counted
second-edition =
    record {
      defines = λ n d a. refl;
      counts = λ f l c. same_test (undefined 1 f l c) (l.count ≠? 0 and lowest (λ j. Cn f l j =? c) l.count =? l.count) (λ h. (h.0, h.1.1)) (λ h. (h.0, (omega arith, h.1)));
      leaves_nothing = refl;
      any_flag = λ h m edition2 second. any_flag edition2 second h m;
      as_first = λ h m planes e.
          let (p, is) = passed (with_edition 1 h) m planes e in
          let k = counted h.settings m in
          (_, passes (with_edition 0 h) m (record { lists = p.lists; file = p.file; checked = checked-first h k p.checked }), subst (λ planes. SamePlanes 0 planes (made (with_edition 0 h) k)) (sym is) (planes-first h k));
    }
