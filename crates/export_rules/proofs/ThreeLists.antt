-- Finishing looks at three lists of the record alone: the palette, the mappings and the definitions.
-- Assumes nothing.
use Prim.Native.Nat.{ℕ, zero, suc, ◌+◌}
use mathlib.Core.Path.{◌≡◌, refl, sym, ap, ◌∙◌, fun_ext}
use mathlib.Core.List.{List, ◌++◌}
use lib.IntN.{ℤ}
use Rattle.box_number.specs.Table.{◌=?◌, otherwise, ◌⇒◌∣◌}
use Rattle.box_number.proofs.Rows.{row, each}
use Rattle.read_record.specs.declared.Jp2.{Jp2}
use Rattle.read_record.specs.Record.{blank, span, palette, with_pclr, with_cmap, with_cdef}
use Rattle.picture_rules.specs.Image.{Image, size}
use Rattle.picture_rules.specs.Channels.{channels, component_of, type_of}
use Rattle.picture_rules.specs.Samples.{value_of, channel_samples, packed, start_of}
use Rattle.picture_rules.specs.Finish.{Finishing, declined, counted, expanded, picture, fitted, colour_checks, checks, finish}
use Rattle.picture_rules.specs.Handed.{Handed}

-- the three lists of a record, and nothing else of it
abbrev pub kept : Jp2 → Jp2
kept m = with_pclr m.lists.pclr (with_cmap m.lists.cmap (with_cdef m.lists.cdef blank))

module _ (f : List ℕ) (m : Jp2) (i : Image) where
  start-same : (n : ℕ) → start_of f (kept m) i n ≡ start_of f m i n
  unfolding start_of component_of
  start-same zero = refl
  start-same (suc n) = ap (λ (k : ℕ). k + size i (component_of f m n)) (start-same n)

  packed-same : (n : ℕ) → packed f (kept m) i n ≡ packed f m i n
  unfolding packed channel_samples value_of type_of component_of
  packed-same zero = refl
  packed-same (suc n) = ap (λ (xs : List ℤ). xs ++ channel_samples f m i n) (packed-same n)

  expanded-same : expanded f (kept m) i ≡ expanded f m i
  unfolding expanded component_of
  expanded-same = fun_ext (λ c. fun_ext (λ k. rw (start-same c) refl))

  picture-same : (edition2 : ℕ) → picture edition2 f (kept m) i ≡ picture edition2 f m i
  unfolding picture channels
  picture-same edition2 = rw (expanded-same, packed-same (channels m i.count)) refl

  checks-same : (edition2 records samples : ℕ) → colour_checks declined edition2 f (kept m) i (fitted edition2 f (kept m) i records samples) ≡ colour_checks declined edition2 f m i (fitted edition2 f m i records samples)
  unfolding fitted colour_checks channels
  checks-same edition2 records samples = rw (picture-same edition2, start-same (channels m i.count)) refl

-- what is left of a record with the ignore flag
abbrev bare : Jp2 → Jp2
bare m = with_pclr (palette 0 0 0) (with_cmap (span 0 0) (with_cdef (span 0 0) m))

module _ (h : Handed) (m : Jp2) where
  applied : (k : Jp2) → h.settings.ignore ≡ 0 → counted h.settings k ≡ k
  unfolding counted
  applied k z = sym (row 0 _ z refl)

  ignored : (k : Jp2) → (h.settings.ignore ≡ 0 → ⊥) → counted h.settings k ≡ bare k
  unfolding counted
  ignored k n = sym (row 1 _ (n, tt) refl)

  -- 25 to 28 and 30 with a record
  abbrev later : Jp2 → Finishing
  later k = colour_checks declined h.settings.edition2 h.file k h.image (fitted h.settings.edition2 h.file k h.image h.records h.samples)

  later_same : (k : Jp2) → later (kept k) ≡ later k
  later_same k = checks-same h.file k h.image h.settings.edition2 h.records h.samples

  counted_same : later (counted h.settings (kept m)) ≡ later (counted h.settings m)
  counted_same =
      each (λ (_ : ℕ). later (counted h.settings (kept m)) ≡ later (counted h.settings m)) (h.settings.ignore =? 0 ⇒ 0 ∣ otherwise 0) (
        (λ z. rw (applied (kept m) z, applied m z) (later_same m)),
        λ n. rw (ignored (kept m) n, ignored m n) (sym (later_same (bare (kept m))) ∙ later_same (bare m)),
      )

  pub finish-same : finish h (kept m) ≡ finish h m
  unfolding finish checks
  finish-same = rw counted_same refl
