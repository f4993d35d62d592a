-- The rows of the tables of finishing, said of the pictures that pass them.
-- Assumes nothing.
use Prim.Native.Nat.{ℕ, ◌<◌}
use mathlib.Core.Path.{◌≡◌, refl, sym, subst}
use mathlib.Core.Bool.{false}
use mathlib.Core.List.{List}
use native.Mathlib.Omega.{arith}
use Rattle.box_number.specs.Table.{Test, ◌=?◌, ◌or◌}
use Rattle.box_number.specs.Lowest.{lowest}
use Rattle.box_number.proofs.Rows.{Says, not_both, row, each}
use Rattle.box_number.proofs.Indices.{decide, lowest-most, lowest-passes, lowest-none, none-lowest, lowest-past}
use Rattle.read_record.specs.declared.Jp2.{Jp2}
use Rattle.read_channels.specs.Cdef.{Cn}
use Rattle.picture_rules.specs.Image.{Image}
use Rattle.picture_rules.specs.Handed.{Handed}
use Rattle.picture_rules.specs.Check.{misnamed, undefined, mismapped}
use Rattle.picture_rules.specs.Finish.{Finishing, finished, declined, outside_lists, outside_file, counted, fitted, colour_checks, checks, finish}
use Rattle.picture_rules.specs.Passing.{Inside, channel_count, Named, HasDefinition, MappedRight, HasSamples, Passing, FinishedExactly, LowestWithout, RoomFor, RefusedExactly}
use Rattle.picture_rules.proofs.Checks.{counted-from, from-counted, Checked, passed, passes}

module _ (f : List ℕ) (m : Jp2) (i : Image) where
  inside-says : Inside f m i → Says false (outside_lists i or outside_file f m)
  inside-says w =
      ((w.few-records, (w.records, (w.few-samples, none-lowest _ _ w.planes))), (w.palette, (w.mappings, w.definitions)))

  says-inside : Says false (outside_lists i or outside_file f m) → Inside f m i
  says-inside (l, g) =
      record {
        few-records = l.0;
        records = l.1.0;
        few-samples = l.1.1.0;
        planes = lowest-none _ _ l.1.1.1;
        palette = g.0;
        mappings = g.1.0;
        definitions = g.1.1;
      }

module _ (h : Handed) (m : Jp2) where
  -- a channel that some definition names is not without one
  named-lowest : (c : ℕ) → (j : ℕ) × (j < m.lists.cdef.count) × (Cn h.file m.lists.cdef j ≡ c) → lowest (λ j. Cn h.file m.lists.cdef j =? c) m.lists.cdef.count ≡ m.lists.cdef.count → ⊥
  named-lowest c (j, l, e) none = lowest-none (λ j. Cn h.file m.lists.cdef j =? c) m.lists.cdef.count (omega arith) j l e

  lowest-named : (c : ℕ) → (lowest (λ j. Cn h.file m.lists.cdef j =? c) m.lists.cdef.count ≡ m.lists.cdef.count → ⊥) → (j : ℕ) × (j < m.lists.cdef.count) × (Cn h.file m.lists.cdef j ≡ c)
  lowest-named c some =
      let t : ℕ → Test = λ j. Cn h.file m.lists.cdef j =? c in
      let below : lowest t m.lists.cdef.count < m.lists.cdef.count = omega (arith, some, lowest-most t m.lists.cdef.count) in
      (lowest t m.lists.cdef.count, below, lowest-passes t m.lists.cdef.count below)

  -- each condition, and that the test of its number fails
  named-says : (j : ℕ) → Named h m j → Says false (misnamed h.file m.lists.cdef (channel_count h m) j)
  named-says j (a, b) = (omega arith, λ z u. omega (arith, b z u))

  says-named : (j : ℕ) → Says false (misnamed h.file m.lists.cdef (channel_count h m) j) → Named h m j
  says-named j (a, b) = (omega arith, λ z u. let s = b z u in omega arith)

  defined-says : (c : ℕ) → HasDefinition h m c → Says false (undefined h.settings.edition2 h.file m.lists.cdef c)
  defined-says c p z from = named-lowest c (p z (counted-from h.settings.edition2 c from))

  says-defined : (c : ℕ) → Says false (undefined h.settings.edition2 h.file m.lists.cdef c) → HasDefinition h m c
  says-defined c p z from = lowest-named c (p z (from-counted h.settings.edition2 c from))

  mapped-says : (c : ℕ) → MappedRight h m c → Says false (mismapped h.file m.lists.cmap h.image.count c)
  mapped-says c (a, b) = (omega arith, b)

  says-mapped : (c : ℕ) → Says false (mismapped h.file m.lists.cmap h.image.count c) → MappedRight h m c
  says-mapped c (a, b) = (omega arith, b)

  passing-checked : Passing h m → Checked h m
  passing-checked p =
      record {
        named = λ j l. named-says j (p.named j l);
        defined = λ c l. defined-says c (p.defined c l);
        mapping = λ c l. mapped-says c (p.mapped c l);
        lent = p.lent;
        record_room = p.record_room;
        most = p.few-samples;
        sample-room = p.sample-room;
      }

  checked-passing : Checked h m → Passing h m
  checked-passing k =
      record {
        named = λ j l. says-named j (k.named j l);
        defined = λ c l. says-defined c (k.defined c l);
        mapped = λ c l. says-mapped c (k.mapping c l);
        lent = k.lent;
        record_room = k.record_room;
        few-samples = k.most;
        sample-room = k.sample-room;
      }

-- the lowest index that passes a test is the lowest without what the test's failure says
lowest_without : (t : ℕ → Test) (P : ℕ → Type 0) (n : ℕ) → ((i : ℕ) → P i → Says false (t i)) → ((i : ℕ) → Says false (t i) → P i) → lowest t n < n → LowestWithout P n (lowest t n)
lowest_without t P n says is l =
    record { below = l; lacks = λ p. not_both (t (lowest t n)) (lowest-passes t n l) (says (lowest t n) p); before = λ i b. is i (lowest-past t n i b) }

-- what each number's index or length says
pub record Told (h : Handed) (m : Jp2) (number place : ℕ) : Type 0 where
  pub by_25 : number ≡ 25 → LowestWithout (Named h m) m.lists.cdef.count place
  pub by_26 : number ≡ 26 → LowestWithout (HasDefinition h m) (channel_count h m) place
  pub by_27 : number ≡ 27 → LowestWithout (MappedRight h m) m.lists.cmap.count place
  pub by_28 : number ≡ 28 → LowestWithout (HasSamples h m) m.lists.cmap.count place
  pub by_30 : number ≡ 30 → RoomFor h m place

abbrev Tells : Handed → Jp2 → Finishing → Type 0
Tells h m (finished planes) = Unit
Tells h m (declined number place) = Told h m number place

module _ (h : Handed) (m : Jp2) where
  told_25 : {j : ℕ} → LowestWithout (Named h m) m.lists.cdef.count j → Told h m 25 j
  told_25 l = record { by_25 = λ _. l; by_26 = λ e. absurd (omega arith); by_27 = λ e. absurd (omega arith); by_28 = λ e. absurd (omega arith); by_30 = λ e. absurd (omega arith) }

  told_26 : {c : ℕ} → LowestWithout (HasDefinition h m) (channel_count h m) c → Told h m 26 c
  told_26 l = record { by_25 = λ e. absurd (omega arith); by_26 = λ _. l; by_27 = λ e. absurd (omega arith); by_28 = λ e. absurd (omega arith); by_30 = λ e. absurd (omega arith) }

  told_27 : {c : ℕ} → LowestWithout (MappedRight h m) m.lists.cmap.count c → Told h m 27 c
  told_27 l = record { by_25 = λ e. absurd (omega arith); by_26 = λ e. absurd (omega arith); by_27 = λ _. l; by_28 = λ e. absurd (omega arith); by_30 = λ e. absurd (omega arith) }

  told_28 : {c : ℕ} → LowestWithout (HasSamples h m) m.lists.cmap.count c → Told h m 28 c
  told_28 l = record { by_25 = λ e. absurd (omega arith); by_26 = λ e. absurd (omega arith); by_27 = λ e. absurd (omega arith); by_28 = λ _. l; by_30 = λ e. absurd (omega arith) }

  told_30 : {n : ℕ} → RoomFor h m n → Told h m 30 n
  told_30 l = record { by_25 = λ e. absurd (omega arith); by_26 = λ e. absurd (omega arith); by_27 = λ e. absurd (omega arith); by_28 = λ e. absurd (omega arith); by_30 = λ _. l }

  told_29 : Told h m 29 0
  told_29 = record { by_25 = λ e. absurd (omega arith); by_26 = λ e. absurd (omega arith); by_27 = λ e. absurd (omega arith); by_28 = λ e. absurd (omega arith); by_30 = λ e. absurd (omega arith) }

  coloured_tells : Tells h m (colour_checks declined h.settings.edition2 h.file m h.image (fitted h.settings.edition2 h.file m h.image h.records h.samples))
  unfolding colour_checks fitted
  coloured_tells =
      each (Tells h m) _ (
        (λ l. told_25 (lowest_without _ (Named h m) _ (named-says h m) (says-named h m) l)),
        λ _. (
          (λ l. told_26 (lowest_without _ (HasDefinition h m) _ (defined-says h m) (says-defined h m) l)),
          λ _. (
            (λ l. told_27 (lowest_without _ (MappedRight h m) _ (mapped-says h m) (says-mapped h m) l)),
            λ _. (
              (λ l. told_28 (lowest_without _ (HasSamples h m) _ (λ i p. p) (λ i p. p) l)),
              λ _.
                  each (Tells h m) _ (
                    (λ l. told_30 (record { records = λ _. refl; samples = λ g. absurd (omega arith) })),
                    λ room. ((λ l. told_30 (record { records = λ g. absurd (omega arith); samples = λ _. (refl, λ g. l g) })), λ _. tt),
                  ),
            ),
          ),
        ),
      )

-- any refusal but 29
abbrev Another : Finishing → Type 0
Another (finished planes) = Unit
Another (declined number place) = number ≡ 29 → ⊥

module _ (h : Handed) (m : Jp2) where
  coloured_another : Another (colour_checks declined h.settings.edition2 h.file m h.image (fitted h.settings.edition2 h.file m h.image h.records h.samples))
  unfolding colour_checks fitted
  coloured_another =
      each Another _ (
        (λ _. omega arith),
        λ _. ((λ _. omega arith), λ _. ((λ _. omega arith), λ _. ((λ _. omega arith), λ _. each Another _ ((λ _. omega arith), λ _. ((λ _. omega arith), λ _. tt))))),
      )

module _ (h : Handed) (m : Jp2) where
  finish-tells : Tells h (counted h.settings m) (finish h m)
  unfolding finish checks
  finish-tells = each (Tells h (counted h.settings m)) _ ((λ _. told_29 h (counted h.settings m)), λ _. coloured_tells h (counted h.settings m))

  tells : (number place : ℕ) → finish h m ≡ declined number place → Told h (counted h.settings m) number place
  tells number place e = subst (Tells h (counted h.settings m)) e finish-tells

module _ (h : Handed) (m : Jp2) where
  inside-another : Inside h.file m h.image → Another (finish h m)
  unfolding finish checks
  inside-another w = subst Another (row 1 _ (inside-says h.file m h.image w, tt) refl) (coloured_another h (counted h.settings m))

  outside-given : (Inside h.file m h.image → ⊥) → finish h m ≡ declined 29 0
  unfolding finish checks
  outside-given astray = decide (outside_lists h.image or outside_file h.file m) (λ t. sym (row 0 _ t refl)) (λ f. absurd (astray (says-inside h.file m h.image f)))

pub finished-exactly : FinishedExactly
finished-exactly =
    record {
      where-passing = λ h m w p. (_, passes h m (let (l, f) = inside-says h.file m h.image w in record { lists = l; file = f; checked = passing-checked h (counted h.settings m) p }));
      only_where = λ h m planes e. let (p, is) = passed h m planes e in (says-inside h.file m h.image (p.lists, p.file), checked-passing h (counted h.settings m) p.checked);
      outside_29 = outside-given;
      only_29 = λ h m place e w. subst Another e (inside-another h m w) refl;
    }

pub refused-exactly : RefusedExactly
refused-exactly =
    record {
      index_25 = λ h m j e. (tells h m 25 j e).by_25 refl;
      index_26 = λ h m c e. (tells h m 26 c e).by_26 refl;
      index_27 = λ h m c e. (tells h m 27 c e).by_27 refl;
      index_28 = λ h m c e. (tells h m 28 c e).by_28 refl;
      length_30 = λ h m length e. (tells h m 30 length e).by_30 refl;
    }
