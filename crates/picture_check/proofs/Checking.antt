-- What is known of a record whose lists lie in the file, and what the checks answer for it.
-- Assumes nothing.
use Rattle.std.proofs.Common.{ℕ, ◌≤◌, ◌<◌, ◌≡◌, Bool, true, false, Option, Some, List, refl, sym, ap, ◌∙◌, arith}
use mathlib.Core.Path.{ap₂}
use Rattle.box_number.specs.Table.{◌or◌, ◌and◌, holds}
use Rattle.box_number.specs.Lowest.{lowest, found}
use Rattle.box_number.proofs.Rows.{Says, row}
use Rattle.box_number.proofs.Answers.{said}
use Rattle.box_number.proofs.Indices.{lowest-past, none-lowest}
use Rattle.box_refusal.specs.Told.{Told, accepted, refused}
use Rattle.read_record.specs.declared.Jp2.{Jp2}
use Rattle.read_record.specs.Record.{span, palette, with_pclr, with_cmap, with_cdef}
use Rattle.picture_rules.specs.Image.{Image}
use Rattle.picture_rules.specs.declared.Settings.{Settings}
use Rattle.picture_rules.specs.Channels.{mapped, channels, corrected}
use Rattle.picture_rules.specs.Check.{misnamed, undefined, mismapped, dataless}
use Rattle.picture_rules.specs.Finish.{outside_lists, outside_file, counted, colour_checks, checks}
use Rattle.picture_rules.proofs.Checks.{counted-all}
use Rattle.picture_rules.proofs.Mappings.{channels-few}
use Rattle.picture_check.specs.declared.Checked.{Checked}
use Rattle.picture_check.specs.Checked.{checked}
use Rattle.picture_check.specs.Private.Parts.{ListInside, Named}
use Rattle.box_number.proofs.Found.{found-below, found-none}

abbrev pub passes : ℕ → Bool → Told Checked
passes n y = accepted (record { channels = n; corrected = y })

-- a record without palette, mappings and definitions
abbrev bare : Jp2 → Jp2
bare m = with_pclr (palette 0 0 0) (with_cmap (span 0 0) (with_cdef (span 0 0) m))

module _ (f : List ℕ) (m : Jp2) (s : Settings) (i : Image) {outside : Bool} (o : outside ≡ holds (outside_lists i or outside_file f m)) where
  pub answer_29 : outside ≡ true → refused 29 0 ≡ checked f m s i
  unfolding checked checks
  answer_29 h = row 0 _ (said true (outside_lists i or outside_file f m) (sym h ∙ o)) refl

  -- where nothing lies outside
  module _ (h : outside ≡ false) where
    inside : Says false (outside_lists i or outside_file f m)
    inside = said false (outside_lists i or outside_file f m) (sym h ∙ o)

    pub definitions-inside : ListInside 6 f m.lists.cdef
    definitions-inside some = (inside.1.1.1 (λ y. omega arith)).1

    definitions-few : 0 < m.lists.cdef.count → m.lists.cdef.count ≤ 65535
    definitions-few some = (inside.1.1.1 (λ y. omega arith)).0

    pub mappings-inside : ListInside 4 f m.lists.cmap
    mappings-inside some = (inside.1.1.0 (λ y. omega arith)).1

    mappings-few : 0 < m.lists.cmap.count → m.lists.cmap.count ≤ 255
    mappings-few some = let e = (inside.1.1.0 (λ y. omega arith)).0 in omega (arith, (inside.1.0 (λ y. omega arith)).1.1.0)

    -- with the ignore flag nothing else is left to check
    bared : (s.ignore ≡ 0 → ⊥) → counted s m ≡ bare m
    unfolding counted
    bared ignored = sym (row 1 _ (ignored, tt) refl)

    bare-channels : (n : ℕ) → channels (bare m) n ≡ n
    unfolding channels
    bare-channels n = sym (row 1 _ (refl, tt) refl)

    nothing_left : passes i.count false ≡ colour_checks refused s.edition2 f (bare m) i (passes (channels (bare m) i.count) (holds (mapped (bare m) and corrected f (bare m).lists.cmap i.count)))
    unfolding colour_checks
    nothing_left =
        row 4 _ (omega arith, (none-lowest (undefined s.edition2 f (span 0 0)) (channels (bare m) i.count) (λ c l z. absurd (z refl)), (omega arith, (omega arith, tt)))) (ap (λ (n : ℕ). passes n false) (sym (bare-channels i.count)))

    pub answer-ignored : (s.ignore ≡ 0 → ⊥) → passes i.count false ≡ checked f m s i
    unfolding checked checks
    answer-ignored ignored = row 1 _ (inside, tt) (rw (bared ignored) nothing_left)

    -- without it k is the number of channels, and w, l, a and b are what was found
    module _ (applied : s.ignore ≡ 0) {k : ℕ} (e : k ≡ channels m i.count) {w : Option ℕ} (d : w ≡ found (misnamed f m.lists.cdef k) m.lists.cdef.count) where
      abbrev passing : Told Checked
      passing = passes (channels m i.count) (holds (mapped m and corrected f m.lists.cmap i.count))

      on : {x : Told Checked} → x ≡ colour_checks refused s.edition2 f m i passing → x ≡ checked f m s i
      unfolding checked checks
      on q = row 1 _ (inside, tt) (rw (counted-all s m applied) q)

      wrong-same : lowest (misnamed f m.lists.cdef k) m.lists.cdef.count ≡ lowest (misnamed f m.lists.cdef (channels m i.count)) m.lists.cdef.count
      wrong-same = ap (λ (x : ℕ). lowest (misnamed f m.lists.cdef x) m.lists.cdef.count) e

      pub fits_25 : {j : ℕ} → w ≡ Some j → j ≤ 65535
      fits_25 {j} p = let b = found-below (misnamed f m.lists.cdef k) m.lists.cdef.count d p in omega (arith, b.0, definitions-few (omega (arith, b.0)))

      pub answer_25 : {j : ℕ} → w ≡ Some j → refused 25 j ≡ checked f m s i
      unfolding colour_checks
      answer_25 p =
          let b = found-below (misnamed f m.lists.cdef k) m.lists.cdef.count d p in
          let q = b.1 ∙ wrong-same in
          let x = b.0 in
          on (row 0 _ (omega arith) (ap (refused 25) q))

      module _ (named : (j : ℕ) → w ≡ Some j → ⊥) where
        none-wrong : m.lists.cdef.count ≤ lowest (misnamed f m.lists.cdef k) m.lists.cdef.count
        none-wrong = found-none (misnamed f m.lists.cdef k) m.lists.cdef.count d named

        pub all_named : Named f m.lists.cdef k
        all_named =
            record {
              inside = definitions-inside;
              below = λ j a. let z = none-wrong in let p = (lowest-past (misnamed f m.lists.cdef k) m.lists.cdef.count j (omega arith)).0 in omega arith;
              most = omega (arith, channels-few f m i inside.0 inside.1);
            }

        module _ {l : Option ℕ} (g : l ≡ found (undefined s.edition2 f m.lists.cdef) k) where
          lacking-same : lowest (undefined s.edition2 f m.lists.cdef) k ≡ lowest (undefined s.edition2 f m.lists.cdef) (channels m i.count)
          lacking-same = ap (lowest (undefined s.edition2 f m.lists.cdef)) e

          named-all : m.lists.cdef.count ≤ lowest (misnamed f m.lists.cdef (channels m i.count)) m.lists.cdef.count
          named-all = omega (arith, none-wrong, wrong-same)

          pub answer_26 : {c : ℕ} → l ≡ Some c → refused 26 c ≡ checked f m s i
          unfolding colour_checks
          answer_26 p =
              let b = found-below (undefined s.edition2 f m.lists.cdef) k g p in
              let q = b.1 ∙ lacking-same in
              let x = b.0 in
              on (row 1 _ (named-all, omega arith) (ap (refused 26) q))

          module _ (defined : (c : ℕ) → l ≡ Some c → ⊥) {a : Option ℕ} (u : a ≡ found (mismapped f m.lists.cmap i.count) m.lists.cmap.count) where
            defined-all : channels m i.count ≤ lowest (undefined s.edition2 f m.lists.cdef) (channels m i.count)
            defined-all = omega (arith, found-none (undefined s.edition2 f m.lists.cdef) k g defined, lacking-same)

            pub fits_27 : {j : ℕ} → a ≡ Some j → j ≤ 255
            fits_27 p = let b = found-below (mismapped f m.lists.cmap i.count) m.lists.cmap.count u p in omega (arith, b.0, mappings-few (omega (arith, b.0)))

            pub answer_27 : {j : ℕ} → a ≡ Some j → refused 27 j ≡ checked f m s i
            unfolding colour_checks
            answer_27 p =
                let b = found-below (mismapped f m.lists.cmap i.count) m.lists.cmap.count u p in
                let x = b.0 in let q = b.1 in
                on (row 2 _ (named-all, (defined-all, omega arith)) (ap (refused 27) q))

            module _ (mapping : (j : ℕ) → a ≡ Some j → ⊥) {b : Option ℕ} (v : b ≡ found (dataless f m.lists.cmap i) m.lists.cmap.count) where
              none-astray : m.lists.cmap.count ≤ lowest (mismapped f m.lists.cmap i.count) m.lists.cmap.count
              none-astray = found-none (mismapped f m.lists.cmap i.count) m.lists.cmap.count u mapping

              pub fits_28 : {j : ℕ} → b ≡ Some j → j ≤ 255
              fits_28 p = let z = found-below (dataless f m.lists.cmap i) m.lists.cmap.count v p in omega (arith, z.0, mappings-few (omega (arith, z.0)))

              pub answer_28 : {j : ℕ} → b ≡ Some j → refused 28 j ≡ checked f m s i
              unfolding colour_checks
              answer_28 p =
                  let z = found-below (dataless f m.lists.cmap i) m.lists.cmap.count v p in
                  let x = z.0 in let q = z.1 in
                  on (row 3 _ (named-all, (defined-all, (none-astray, omega arith))) (ap (refused 28) q))

              pub answer-passed : {y : Bool} → ((j : ℕ) → b ≡ Some j → ⊥) → y ≡ holds (mapped m and corrected f m.lists.cmap i.count) → passes k y ≡ checked f m s i
              unfolding colour_checks
              answer-passed filled p =
                  on (row 4 _ (named-all, (defined-all, (none-astray, (found-none (dataless f m.lists.cmap i) m.lists.cmap.count v filled, tt)))) (ap₂ passes e p))
