-- Channels packed one after the other: what one turn adds to the records and to the samples.
-- Assumes nothing.
use Prim.Native.Nat.{ℕ, suc, ◌+◌, ◌*◌, ◌≤◌, ◌<◌}
use native.Mathlib.Numerals.{add-one}
use native.Mathlib.Omega.{arith}
use mathlib.Core.Path.{◌≡◌, refl, sym, ap, ap₂, ◌∙◌}
use mathlib.Core.Bool.{Bool, true, false}
use mathlib.Core.List.{List, ◌++◌}
use lib.IntN.{ℤ}
use lib.ListN.{length, length-append, length-drop}
use Rattle.box_number.specs.Table.{◌=?◌, flag, ◌and◌, holds, table}
use Rattle.box_number.proofs.Rows.{Says, said}
use Rattle.read_record.specs.declared.Jp2.{Jp2}
use Rattle.picture_rules.specs.Flat.{flat}
use Rattle.picture_rules.proofs.Flats.{flat-length, flat-next}
use Rattle.picture_rules.specs.Image.{Image, first, size}
use Rattle.picture_rules.specs.Channels.{mapped, corrected, channels, component_of, type_by, type_of}
use Rattle.picture_rules.specs.Samples.{value_of, channel_samples, packed, start_of}
use Rattle.picture_rules.specs.Finish.{expanded}
use Rattle.box_number.proofs.Indices.{decide}
use Rattle.picture_rules.proofs.Packs.{Held, size-some, start-more, packed-length}
use Rattle.picture_rules.proofs.Mappings.{kept, plain_type, component-below, component-inside}
use Rattle.box_number.specs.Number.{number, placed}
use Rattle.picture_planes.specs.declared.Column.{Column}
use Rattle.picture_planes.specs.Column.{no_column}
use Rattle.picture_planes.specs.Plane.{samples_of}
use Rattle.picture_planes.proofs.Picks.{map_same}
use Rattle.box_number.proofs.Placing.{placed-after}
use Rattle.picture_rules.specs.Answers.{fronted}
use Rattle.picture_finish.proofs.ColumnsOf as of
use Rattle.picture_finish.specs.Private.Parts.{record_at, looked_up, samples_at, Packable, Tested, Roomy, unordered}

-- a list at the front of a destination that is long enough leaves its length
front_length : {A : Type 0} (xs d : List A) → length xs ≤ length d → length (fronted xs d) ≡ length d
front_length xs d h = rw (length-append, length-drop) (omega arith)

-- one piece more at the front
front-next : {A : Type 0} (xs ys d : List A) (at : ℕ) {e e' : List A} → at ≡ length xs → e ≡ fronted xs d → e' ≡ placed e at ys → e' ≡ fronted (xs ++ ys) d
front-next xs ys d at {e} a q p = p ∙ ap₂ (λ x n. placed x n ys) q a ∙ placed-after d xs ys

module _ (f : List ℕ) (m : Jp2) (i : Image) where
  -- the file from the palette on, and a channel's column in it
  abbrev rest : List ℕ
  rest = of.rest f m.lists.pclr 0

  abbrev column_for : ℕ → Column
  column_for c = of.column_for f m.lists.pclr c

  -- a channel's record, with its samples where those before it end
  record_is : (c : ℕ) {s : List ℕ} {at : ℕ} → s ≡ rest → at ≡ start_of f m i c → record_at (number s c 1) m.lists.cmap.count i (component_of f m c) at ≡ flat (λ _. expanded f m i c) 13
  unfolding expanded component_of
  record_is c d e = rw (of.depth_is f m.lists.pclr c d, e)

  module _ (correct : Bool) (flags : correct ≡ holds (mapped m and corrected f m.lists.cmap i.count)) where
    -- a channel's type and its samples
    type-is : (c : ℕ) → type_by f m.lists.cmap (flag correct) c ≡ type_of f m i.count c
    unfolding type_of table
    type-is c = rw flags

    samples_are : (c : ℕ) {s : List ℕ} {k : Column} → s ≡ rest → k ≡ column_for c → samples_at s k i (component_of f m c) (looked_up f m.lists.cmap correct c) ≡ channel_samples f m i c
    unfolding component_of size channel_samples value_of
    samples_are c d e = rw (type-is c) (map_same (of.value-is f m.lists.pclr c (type_of f m i.count c) d e) (samples_of i.samples (first i (component_of f m c)) (size i (component_of f m c))))

    module _ (tested : Tested f m i) (n : ℕ) (all : n ≡ channels m i.count) where
      -- every channel's component has its samples in the list
      within : Held f m i n
      within c l = component-inside f m i (kept f m tested.file) tested.mapping c (rw (← all) l) tested.lists

      -- a channel of type 1 has a mapping, and so a column
      column-there : (c : ℕ) {k : Column} → k ≡ column_for c → looked_up f m.lists.cmap correct c ≡ true → Says false (no_column k)
      column-there c d t =
          decide (m.lists.cmap.count =? 0)
          (λ z. absurd (omega (arith, said true (type_by f m.lists.cmap (flag correct) c =? 1) t, type-is c, plain_type m f c i.count z)))
          (λ some.
          let e = (tested.file.1.0 some).0 in
          of.column-there f m.lists.pclr c d tested.file.0 (λ z. some (omega arith)))

      pub packable : (room c at : ℕ) {k : Column} → k ≡ column_for c → c < n → at ≡ start_of f m i c → start_of f m i n ≤ room → Packable k i (component_of f m c) (looked_up f m.lists.cmap correct c) room at
      unfolding start_of
      packable room c at d l e h =
          record {
            numbers = omega (arith, component-below f m i (kept f m tested.file) tested.mapping c (rw (← all) l), tested.lists.1.0);
            column = column-there c d;
            inside = λ some. omega (arith, within c l some, size-some i (component_of f m c) some);
            fits = omega (arith, start-more f m i (suc c) n l);
          }

-- c channels are packed: their records and samples are at the front of the destinations, and the next samples go to a place
pub record Packed (f : List ℕ) (m : Jp2) (i : Image) (records₀ : List ℕ) (planes₀ : List ℤ) (records : List ℕ) (planes : List ℤ) (c at : ℕ) : Type 0 where
  pub start : at ≡ start_of f m i c
  pub numbers : records ≡ fronted (flat (expanded f m i) (13 * c)) records₀
  pub samples : planes ≡ fronted (packed f m i c) planes₀

module _ (f : List ℕ) (m : Jp2) (i : Image) (records₀ : List ℕ) (planes₀ : List ℤ) where
  pub packed_none : Packed f m i records₀ planes₀ records₀ planes₀ 0 0
  unfolding flat packed start_of
  packed_none = record { start = refl; numbers = refl; samples = refl }

  module _ (correct : Bool) (flags : correct ≡ holds (mapped m and corrected f m.lists.cmap i.count)) (tested : Tested f m i) (n : ℕ) (roomy : Roomy f m i n (length records₀) (length planes₀)) where
    module _ {records : List ℕ} {planes : List ℤ} {c at : ℕ} (p : Packed f m i records₀ planes₀ records planes c at) where
      held : c ≤ n → Held f m i c
      held h k l = within f m i correct flags tested n roomy.all k (omega arith)

      pub packed-records : c ≤ n → length records ≡ length records₀
      packed-records h = ap length p.numbers ∙ front_length (flat (expanded f m i) (13 * c)) records₀ (omega (arith, flat-length (expanded f m i) (13 * c), roomy.record_room))

      pub packed-planes : c ≤ n → length planes ≡ length planes₀
      packed-planes h = ap length p.samples ∙ front_length (packed f m i c) planes₀ (omega (arith, packed-length f m i c (held h), roomy.sample-room, start-more f m i c n h))

      pub packed-most : c ≤ n → at ≤ 4294967294
      packed-most h = omega (arith, p.start, roomy.most, start-more f m i c n h)

      pub packed-next : c < n → {records' : List ℕ} {planes' : List ℤ} {at' : ℕ} → at' ≡ at + size i (component_of f m c) →
          {s : List ℕ} {k : Column} → s ≡ rest f m i → k ≡ column_for f m i c →
          records' ≡ placed records (13 * c) (record_at (number s c 1) m.lists.cmap.count i (component_of f m c) at) →
          planes' ≡ placed planes at (samples_at s k i (component_of f m c) (looked_up f m.lists.cmap correct c)) →
          Packed f m i records₀ planes₀ records' planes' (c + 1) at'
      unfolding packed start_of
      packed-next l {records'} {planes'} {at'} a {s} {k} d e u v =
          record {
            start = rw (add-one c) (a ∙ ap (λ x. x + size i (component_of f m c)) p.start);
            numbers =
                front-next (flat (expanded f m i) (13 * c)) (flat (λ _. expanded f m i c) 13) records₀ (13 * c) (sym (flat-length (expanded f m i) (13 * c))) p.numbers (u ∙ ap (placed records (13 * c)) (record_is f m i c d p.start))
                ∙ ap (λ x. fronted x records₀) (sym (flat-next (expanded f m i) c));
            samples =
                rw (add-one c) (front-next (packed f m i c) (channel_samples f m i c) planes₀ at (p.start ∙ sym (packed-length f m i c (held (omega arith)))) p.samples (v ∙ ap (placed planes at) (samples_are f m i correct flags c d e)));
          }

  -- at the end all of them are
  pub packed_all : {records : List ℕ} {planes : List ℤ} {n c at : ℕ} → n ≡ channels m i.count → c ≡ n → Packed f m i records₀ planes₀ records planes c at →
      (records ≡ fronted (unordered f m i).components records₀) × (planes ≡ fronted (unordered f m i).samples planes₀)
  unfolding unordered
  packed_all e d p = (rw (d, e) at p.numbers, rw (d, e) at p.samples)
