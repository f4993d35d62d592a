-- Finishing a picture with the record that reading its file gave: numbers 29, 25 to 28 and 30, in that order, or the finished picture.
use Rattle.std.specs.Prelude.{ℕ, ◌+◌, ◌*◌, List, length}
use Rattle.box_number.specs.Table.{Test, ◌=?◌, ◌≠?◌, ◌<?◌, ◌or◌, ◌and◌, otherwise, ◌⇒◌∣◌, table}
use Rattle.box_number.specs.Number.{lies_outside}
use Rattle.box_number.specs.Lowest.{lowest, some}
use Rattle.read_record.specs.declared.Span.{Span}
use Rattle.read_record.specs.declared.Palette.{Palette}
use Rattle.read_record.specs.declared.Jp2.{Jp2}
use Rattle.read_record.specs.Record.{span, palette, with_pclr, with_cmap, with_cdef}
use Rattle.read_record.specs.Component.{prec, sgnd, «data», numbers_each}
use Rattle.read_palette.specs.Pclr.{depth, sign, B, row_size}
pub use Rattle.read_palette.specs.Pclr.{most_entries}
use Rattle.read_channels.specs.Definitions.{definitions, definitions_outside}
use Rattle.picture_rules.specs.Order.{arranged}
use Rattle.picture_rules.specs.Flat.{flat}
use Rattle.picture_rules.specs.Image.{Image, component, width, height, first, no_data, most_components, most_samples}
use Rattle.picture_rules.specs.Handed.{Settings, Handed}
use Rattle.picture_rules.specs.Channels.{channels, component_of}
use Rattle.picture_rules.specs.Samples.{packed, start_of}
use Rattle.picture_rules.specs.Check.{misnamed, undefined, mismapped, dataless}

-- a finished picture, or a number and what goes with it
pub data Finishing : Type 0 where
  finished : Image → Finishing
  declined : ℕ → ℕ → Finishing

-- 29: the plane of component c has samples, and they do not lie in a list of the given length
abbrev pub plane_outside : Image → ℕ → ℕ → Test
plane_outside i len c = first i c ≠? no_data and lies_outside len (first i c) (height i c * width i c)

-- 29: too many components or samples, or a record or a plane outside its list
abbrev pub outside_lists : Image → Test
outside_lists i =
    most_components <? i.count or length i.components <? numbers_each * i.count or most_samples <? length i.samples
    or some (plane_outside i (length i.samples)) i.count

-- the most columns of a palette that the reader of pclr gives
abbrev pub most_columns : ℕ
most_columns = 255

-- 29: a palette that no reader gives, or that does not lie in the file; one of no columns is none, wherever its place is
abbrev pub palette_outside : List ℕ → Palette → Test
palette_outside f p =
    p.columns ≠? 0 and (p.entries =? 0 or most_entries <? p.entries or most_columns <? p.columns or lies_outside (length f) p.place (p.columns + p.entries * row_size f p))

-- 29: a mapping list that no reader gives for a palette of this many columns, or that does not lie in the file; one of no mappings is none
abbrev pub mappings_outside : List ℕ → Span → ℕ → Test
mappings_outside f l columns = l.count ≠? 0 and (l.count ≠? columns or lies_outside (length f) l.place (4 * l.count))

abbrev pub outside_file : List ℕ → Jp2 → Test
outside_file f m =
    palette_outside f m.lists.pclr or mappings_outside f m.lists.cmap m.lists.pclr.columns or definitions_outside f m.lists.cdef

-- what the settings leave of a record: with the ignore flag palette, mappings and definitions count for nothing
unfoldable pub counted : Settings → Jp2 → Jp2
counted s m = table (s.ignore =? 0 ⇒ m ∣ otherwise (with_pclr (palette 0 0 0) (with_cmap (span 0 0) (with_cdef (span 0 0) m))))

-- number k of a channel's record before reordering: that of its component r, with the depth and sign of its column's b as precision and sign where there are mappings, for a direct channel too (difference 32), and with samples of its own
abbrev pub expanded_from : ℕ → ℕ → Image → ℕ → ℕ → ℕ → ℕ
expanded_from b mappings i r start k =
    table
    (mappings ≠? 0 and k =? prec ⇒ depth b
    ∣ mappings ≠? 0 and k =? sgnd ⇒ sign b
    ∣ first i r ≠? no_data and k =? «data» ⇒ start
    ∣ otherwise (component i r k))

-- of channel c
unfoldable pub expanded : List ℕ → Jp2 → Image → ℕ → ℕ → ℕ
expanded f m i c k = expanded_from (B f m.lists.pclr c) m.lists.cmap.count i (component_of f m c) (start_of f m i c) k

-- the finished picture: the channels' records in the order that the definitions give, and the channels' samples
unfoldable pub picture : ℕ → List ℕ → Jp2 → Image → Image
picture edition2 f m i =
    let n = channels m i.count in
    record {
      components = flat (arranged edition2 n (definitions f m.lists.cdef) (expanded f m i)).records (numbers_each * n);
      count = n;
      samples = packed f m i n;
    }

-- 25 to 28, each with the lowest index at fault; where nothing is at fault, what comes next
unfoldable pub colour_checks : {A : Type 0} → (ℕ → ℕ → A) → ℕ → List ℕ → Jp2 → Image → A → A
colour_checks refuse edition2 f m i next =
    let n = channels m i.count in
    let wrong = lowest (misnamed f m.lists.cdef n) m.lists.cdef.count in
    let lacking = lowest (undefined edition2 f m.lists.cdef) n in
    let astray = lowest (mismapped f m.lists.cmap i.count) m.lists.cmap.count in
    let blank = lowest (dataless f m.lists.cmap i) m.lists.cmap.count in
    table
    (wrong <? m.lists.cdef.count ⇒ refuse 25 wrong
    ∣ lacking <? n ⇒ refuse 26 lacking
    ∣ astray <? m.lists.cmap.count ⇒ refuse 27 astray
    ∣ blank <? m.lists.cmap.count ⇒ refuse 28 blank
    ∣ otherwise next)

-- 29 of the whole record, then 25 to 28 of what the settings leave of it
unfoldable pub checks : {A : Type 0} → (ℕ → ℕ → A) → List ℕ → Jp2 → Settings → Image → A → A
checks refuse f m s i next =
    table
    (outside_lists i or outside_file f m ⇒ refuse 29 0
    ∣ otherwise (colour_checks refuse s.edition2 f (counted s m) i next))

-- 30, where the destinations have this much room for numbers of records, and for samples
unfoldable pub fitted : ℕ → List ℕ → Jp2 → Image → ℕ → ℕ → Finishing
fitted edition2 f m i records samples =
    let n = channels m i.count in
    let needed = start_of f m i n in
    table
    (records <? numbers_each * n ⇒ declined 30 (numbers_each * n)
    ∣ most_samples <? needed or samples <? needed ⇒ declined 30 needed
    ∣ otherwise (finished (picture edition2 f m i)))

-- all checks, then 30; m is the record from reading the file
unfoldable pub finish : Handed → Jp2 → Finishing
finish h m =
    checks declined h.file m h.settings h.image
    (fitted h.settings.edition2 h.file (counted h.settings m) h.image h.records h.samples)
