-- Finishing as a whole: what the answer of the checks says of it.
-- Assumes nothing.
use Prim.Native.Nat.{ℕ, ◌≤◌, ◌<◌}
use mathlib.Core.Path.{◌≡◌, refl, sym, subst}
use mathlib.Core.Bool.{Bool, true, false}
use mathlib.Core.List.{List}
use Rattle.box_number.specs.Table.{◌or◌, ◌and◌, holds}
use Rattle.box_number.specs.Lowest.{lowest}
use Rattle.box_number.proofs.Rows.{Says, row, each}
use Rattle.box_number.proofs.Indices.{lowest-none}
use Rattle.box_refusal.specs.Told.{Told, accepted, refused}
use Rattle.read_record.specs.declared.Jp2.{Jp2}
use Rattle.picture_rules.specs.Image.{Image}
use Rattle.picture_rules.specs.declared.Settings.{Settings}
use Rattle.picture_rules.specs.Handed.{Handed}
use Rattle.picture_rules.specs.Channels.{mapped, channels, corrected}
use Rattle.picture_rules.specs.Check.{misnamed, undefined, mismapped, dataless}
use Rattle.picture_rules.specs.Finish.{Finishing, declined, outside_lists, outside_file, counted, fitted, colour_checks, checks, finish}
use Rattle.picture_check.specs.declared.Checked.{Checked}
use Rattle.picture_check.specs.Checked.{checked}
use Rattle.picture_finish.specs.Private.Parts.{Tested}

-- without palette, mappings and definitions none lies outside the file
counted-inside : (f : List ℕ) (m : Jp2) (s : Settings) → Says false (outside_file f m) → Says false (outside_file f (counted s m))
unfolding counted
counted-inside f m s file = each (λ k. Says false (outside_file f k)) _ ((λ _. file), λ _. ((λ h. absurd (h refl)), ((λ h. absurd (h refl)), λ h. absurd (h refl))))

module _ (h : Handed) (m : Jp2) where
  abbrev f : List ℕ
  f = h.file

  abbrev i : Image
  i = h.image

  -- what the settings leave of the record
  abbrev pub k : Jp2
  k = counted h.settings m

  abbrev pub next : Finishing
  next = fitted h.settings.edition2 f k i h.records h.samples

  abbrev wrong : ℕ
  wrong = lowest (misnamed f k.lists.cdef (channels k i.count)) k.lists.cdef.count

  abbrev lacking : ℕ
  lacking = lowest (undefined h.settings.edition2 f k.lists.cdef) (channels k i.count)

  abbrev astray : ℕ
  astray = lowest (mismapped f k.lists.cmap i.count) k.lists.cmap.count

  abbrev blank : ℕ
  blank = lowest (dataless f k.lists.cmap i) k.lists.cmap.count

  -- what is known where the checks pass
  pub record Passes (n : ℕ) (correct : Bool) : Type 0 where
    pub on : finish h m ≡ next
    pub tested : Tested f k i
    pub all : n ≡ channels k i.count
    pub flags : correct ≡ holds (mapped k and corrected f k.lists.cmap i.count)

  -- what an answer of the checks says of it
  abbrev Says-of : Told Checked → Type 0
  Says-of (accepted p) = Passes p.channels p.corrected
  Says-of (refused number place) = finish h m ≡ declined number place

  finish_29 : Says true (outside_lists i or outside_file f m) → finish h m ≡ declined 29 0
  unfolding finish checks
  finish_29 o = sym (row 0 _ o refl)

  module _ (inside : Says false (outside_lists i or outside_file f m)) where
    later : {x : Finishing} → x ≡ colour_checks declined h.settings.edition2 f k i next → finish h m ≡ x
    unfolding finish checks
    later e = sym (row 1 _ (inside, tt) e)

    told_25 : wrong < k.lists.cdef.count → finish h m ≡ declined 25 wrong
    unfolding colour_checks
    told_25 w = later (row 0 _ w refl)

    module _ (named : k.lists.cdef.count ≤ wrong) where
      told_26 : lacking < channels k i.count → finish h m ≡ declined 26 lacking
      unfolding colour_checks
      told_26 w = later (row 1 _ (named, w) refl)

      module _ (defined : channels k i.count ≤ lacking) where
        told_27 : astray < k.lists.cmap.count → finish h m ≡ declined 27 astray
        unfolding colour_checks
        told_27 w = later (row 2 _ (named, (defined, w)) refl)

        module _ (mapping : k.lists.cmap.count ≤ astray) where
          told_28 : blank < k.lists.cmap.count → finish h m ≡ declined 28 blank
          unfolding colour_checks
          told_28 w = later (row 3 _ (named, (defined, (mapping, w))) refl)

          on-next : k.lists.cmap.count ≤ blank → finish h m ≡ next
          unfolding colour_checks
          on-next lent = later (row 4 _ (named, (defined, (mapping, (lent, tt)))) refl)

          told-passed : k.lists.cmap.count ≤ blank → Passes (channels k i.count) (holds (mapped k and corrected f k.lists.cmap i.count))
          told-passed lent =
              record {
                on = on-next lent;
                tested = record { lists = inside.0; file = counted-inside f m h.settings inside.1; mapping = lowest-none _ _ mapping };
                all = refl;
                flags = refl;
              }

  said-of : Says-of (checked f m h.settings i)
  unfolding checked checks colour_checks
  said-of =
      each Says-of _ (
        finish_29,
        λ inside.
            each Says-of _ (
              told_25 inside,
              λ named. (told_26 inside named, λ defined. (told_27 inside named defined, λ mapping. (told_28 inside named defined mapping, told-passed inside named defined mapping))),
            ),
      )

  -- an answer of the checks
  pub entry-refused : {number place : ℕ} → refused number place ≡ checked f m h.settings i → finish h m ≡ declined number place
  entry-refused e = subst Says-of (sym e) said-of

  pub entry-passed : {p : Checked} → accepted p ≡ checked f m h.settings i → Passes p.channels p.corrected
  entry-passed e = subst Says-of (sym e) said-of
