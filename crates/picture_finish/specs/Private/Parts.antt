-- For private functions only: channels over one list and a number at a time, what has been tested when planes are packed, and the picture before it is put in order.
use Rattle.std.specs.Prelude.{ℕ, ◌+◌, ◌*◌, ◌≤◌, ◌<◌, ◌≡◌, Bool, true, false, List, map, ℤ, length}
use Rattle.box_number.specs.Table.{◌=?◌, flag, otherwise, ◌⇒◌∣◌, table, holds, Says}
use Rattle.read_record.specs.declared.Span.{Span}
use Rattle.read_record.specs.declared.Jp2.{Jp2}
use Rattle.read_record.specs.Component.{numbers_each}
use Rattle.picture_rules.specs.Flat.{flat}
use Rattle.picture_rules.specs.Image.{Image, image, first, no_data, most_samples, size}
use Rattle.picture_rules.specs.Channels.{channels, type_by}
use Rattle.picture_rules.specs.Samples.{packed, start_of}
use Rattle.picture_rules.specs.Check.{mismapped}
use Rattle.picture_rules.specs.Finish.{outside_lists, outside_file, expanded_from, expanded}
use Rattle.picture_planes.specs.declared.Column.{Column}
use Rattle.picture_planes.specs.Column.{no_column, picked}
use Rattle.picture_planes.specs.Plane.{samples_of}

-- the thirteen numbers of a channel's record, where b is the depth and sign of its column
abbrev pub record_at : ℕ → ℕ → Image → ℕ → ℕ → List ℕ
record_at b mappings i r start = flat (λ _ k. expanded_from b mappings i r start k) numbers_each

-- channel c is looked up in the palette: its type is 1
abbrev pub looked_up : List ℕ → Span → Bool → ℕ → Bool
looked_up f l correct c = holds (type_by f l (flag correct) c =? 1)

-- what a channel makes of a sample: where it is looked up the entry that it picks in the column k of s, else the sample itself
abbrev pub value_by : List ℕ → Column → Bool → ℤ → ℤ
value_by s k looked v = table (flag looked ⇒ picked s k v ∣ otherwise v)

-- and of all samples of its component r
abbrev pub samples_at : List ℕ → Column → Image → ℕ → Bool → List ℤ
samples_at s k i r looked = map (value_by s k looked) (samples_of i.samples (first i r) (size i r))

-- a channel can be packed at a place: the record of its component lies in its list, its column exists where it has one, its component's samples lie in theirs, and there is room
pub record Packable (k : Column) (i : Image) (r : ℕ) (looked : Bool) (room at : ℕ) : Type 0 where
  pub numbers : numbers_each * r + numbers_each ≤ length i.components
  pub column : looked ≡ true → Says false (no_column k)
  pub inside : (first i r ≡ no_data → ⊥) → first i r + size i r ≤ length i.samples
  pub fits : at + size i r ≤ room

-- 29 and 27 have been tested
pub record Tested (f : List ℕ) (m : Jp2) (i : Image) : Type 0 where
  pub lists : Says false (outside_lists i)
  pub file : Says false (outside_file f m)
  pub mapping : (c : ℕ) → c < m.lists.cmap.count → Says false (mismapped f m.lists.cmap i.count c)

-- and there is room for the n channels
pub record Roomy (f : List ℕ) (m : Jp2) (i : Image) (n records samples : ℕ) : Type 0 where
  pub all : n ≡ channels m i.count
  pub record_room : numbers_each * n ≤ records
  pub most : start_of f m i n ≤ most_samples
  pub sample-room : start_of f m i n ≤ samples

-- the picture before its planes are put in order
unfoldable pub unordered : List ℕ → Jp2 → Image → Image
unordered f m i = let n = channels m i.count in image (flat (expanded f m i) (numbers_each * n)) n (packed f m i n)
