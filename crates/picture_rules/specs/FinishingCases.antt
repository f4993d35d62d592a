-- Finishing on both sides of its bounds, as one table that is computed whole: the thirteen numbers of every finished record, every sample, and each refusal with its index or needed length.
use Rattle.std.specs.Prelude.{ℕ, zero, suc, ◌+◌, ◌-◌, ◌*◌, ◌≡◌, refl, List, [], ◌∷◌, ◌++◌, ℤ, pos, negsuc, length, take, replicate}
use Rattle.box_number.specs.Number.{number, bytes}
use Rattle.box_number.specs.Table.{table}
use Rattle.box_number.specs.Lowest.{lowest}
use Rattle.read_record.specs.declared.Span.{Span}
use Rattle.read_record.specs.declared.Palette.{Palette}
use Rattle.read_record.specs.declared.Jp2.{Jp2}
use Rattle.read_record.specs.Record.{span, palette, with_pclr, with_cmap, with_cdef, blank}
use Rattle.read_palette.specs.Pclr.{entry_bytes, row_bytes, Cji}
use Rattle.read_channels.specs.Definitions.{Def, def, definitions_to}
use Rattle.read_rules.specs.Files.{two, four}
use Rattle.picture_rules.specs.Edition.{marked_position, least_counted}
use Rattle.picture_rules.specs.Order.{exchange, define, run_definitions}
use Rattle.picture_rules.specs.Flat.{flat}
use Rattle.picture_rules.specs.Image.{Image, image, no_data, sample_at, size}
use Rattle.picture_rules.specs.Handed.{Settings, Handed, settings}
use Rattle.picture_rules.specs.Channels.{channels, component_of, type_of}
use Rattle.picture_rules.specs.Samples.{displayed, lookup, value_for, value_of, channel_samples, packed, start_of}
use Rattle.picture_rules.specs.Finish.{Finishing, finished, declined, counted, expanded, picture, fitted, colour_checks, checks, finish}
use Rattle.picture_rules.specs.Boxes.{mapping, definition_fields}

-- a component, or a finished record, by the name of the component whose numbers it has: the six numbers that finishing looks at or sets are said, the other seven differ by name and by position
infix 70 ◌wide◌high◌bits◌sign◌at◌mark◌
abbrev pub ◌wide◌high◌bits◌sign◌at◌mark◌ : ℕ → ℕ → ℕ → ℕ → ℕ → ℕ → ℕ → List ℕ
◌wide◌high◌bits◌sign◌at◌mark◌ name w h prec sgnd first alpha =
    name ∷ (name + 1) ∷ w ∷ h ∷ (name + 4) ∷ (name + 5) ∷ prec ∷ (name + 7) ∷ sgnd ∷ (name + 9) ∷ (name + 10) ∷ first ∷ alpha ∷ []

abbrev A : ℕ
A = 100

abbrev B : ℕ
B = 200

abbrev C : ℕ
C = 300

abbrev D : ℕ
D = 400

-- one sample of 8 bits, and a mark that no definition sets
abbrev pub point : ℕ → ℕ → List ℕ
point name first = name wide 1 high 1 bits 8 sign 0 at first mark 9

abbrev pub minus : ℕ → ℤ
minus n = negsuc (n - 1)

abbrev pub joined : List (List ℕ) → List ℕ
joined [] = []
joined (c ∷ cs) = c ++ joined cs

-- records and their list of samples
infix 30 ◌over◌
abbrev pub ◌over◌ : List (List ℕ) → List ℤ → Image
◌over◌ records samples = image (joined records) (length records) samples

-- a file that holds lists, and where the record says that they are
pub record Lists : Type 0 where
  pub file : List ℕ
  pub kept : Jp2

abbrev pub lists : List ℕ → Palette → Span → Span → Lists
lists file p l d = record { file = file; kept = with_pclr p (with_cmap l (with_cdef d blank)) }

abbrev pub no_palette : Palette
no_palette = palette 0 0 0

abbrev pub none : Span
none = span 0 0

abbrev pub plain : Lists
plain = lists [] no_palette none none

-- the bytes before the first list
abbrev pub before : List ℕ
before = 9 ∷ 9 ∷ 9 ∷ []

abbrev pub defined : List Def → Lists
defined ds = lists (before ++ definition_fields ds) no_palette none (span 3 (length ds))

-- a palette of so many entries, by the depth and sign of each column (Bi) and its rows; a mapping for each column; definitions
abbrev pub mapped : ℕ → List ℕ → List ℕ → List ℕ → List Def → Lists
mapped entries columns rows mappings ds =
    let n = length columns in
    let after = 3 + n + length rows in
    lists (before ++ columns ++ rows ++ mappings ++ definition_fields ds) (palette 3 entries n) (span after n) (span (after + 4 * n) (length ds))

-- the same with the first n bytes of the file
abbrev pub cut : ℕ → Lists → Lists
cut n l = record { file = take n l.file; kept = l.kept }

-- the settings, and the room for numbers of records and for samples
pub record Room : Type 0 where
  pub told : Settings
  pub records : ℕ
  pub samples : ℕ

-- edition 1
abbrev pub room : ℕ → ℕ → Room
room records samples = record { told = settings 0 0; records = records; samples = samples }

abbrev pub enough : Room
enough = room 52 16

-- as much room, with the ignore flag; with the flag of the edition; with both
abbrev pub ignoring : ℕ → Room
ignoring ignore = record { told = settings ignore 0; records = 52; samples = 16 }

abbrev pub edition : ℕ → Room
edition edition2 = record { told = settings 0 edition2; records = 52; samples = 16 }

abbrev pub flags : ℕ → ℕ → Room
flags ignore edition2 = record { told = settings ignore edition2; records = 52; samples = 16 }

-- everything that finishing takes
pub record Given : Type 0 where
  pub handed : Handed
  pub kept : Jp2

infix 25 ◌with◌into◌
abbrev pub ◌with◌into◌ : Image → Lists → Room → Given
◌with◌into◌ i l r = record { handed = record { file = l.file; image = i; settings = r.told; records = r.records; samples = r.samples }; kept = l.kept }

-- a table of what finishing takes and of its expected answers
infixr 20 ◌gives◌∣◌
pub data Cases : Type 0 where
  end : Cases
  ◌gives◌∣◌ : Given → Finishing → Cases → Cases

-- one component of one sample, and components of one sample each
abbrev pub one : ℤ → Image
one s = point A 0 ∷ [] over s ∷ []

abbrev pub pair : Image
pair = point A 0 ∷ point B 1 ∷ [] over pos 0 ∷ pos 1 ∷ []

abbrev pub three : Image
three = point A 0 ∷ point B 1 ∷ point C 2 ∷ [] over pos 1 ∷ pos 2 ∷ pos 3 ∷ []

abbrev pub four-points : Image
four-points = point A 0 ∷ point B 1 ∷ point C 2 ∷ point D 3 ∷ [] over pos 1 ∷ pos 2 ∷ pos 3 ∷ pos 4 ∷ []

-- samples of which A's, two rows of three, start at 4, and B's two at 1
abbrev pub lent : List ℤ
lent = pos 90 ∷ pos 1 ∷ pos 0 ∷ pos 91 ∷ pos 3000 ∷ pos 3001 ∷ pos 3002 ∷ pos 3003 ∷ pos 3004 ∷ minus 5 ∷ pos 92 ∷ []

abbrev pub sizes : Image
sizes = A wide 3 high 2 bits 16 sign 0 at 4 mark 5 ∷ B wide 2 high 1 bits 10 sign 1 at 1 mark 7 ∷ [] over lent

-- B has an area and no samples
abbrev pub gap : Image
gap = A wide 3 high 2 bits 16 sign 1 at 4 mark 5 ∷ B wide 5 high 7 bits 10 sign 0 at no_data mark 6 ∷ C wide 1 high 1 bits 8 sign 0 at 0 mark 7 ∷ [] over lent

-- A has no samples, B one
abbrev pub blank_first : Image
blank_first = A wide 1 high 1 bits 8 sign 0 at no_data mark 9 ∷ point B 0 ∷ [] over pos 1 ∷ []

-- channel 0 is B looked up in column 0, channel 1 is A as it is; column 1 has 12 bits and a sign
abbrev pub beside : Lists
beside = mapped 2 (7 ∷ 139 ∷ []) (10 ∷ two 600 ++ 20 ∷ two 700) (mapping 1 1 0 ++ mapping 0 0 0) []

abbrev pub beside_planes : Image
beside_planes =
    B wide 2 high 1 bits 8 sign 0 at 0 mark 7 ∷ A wide 3 high 2 bits 12 sign 1 at 2 mark 5 ∷ []
    over pos 20 ∷ pos 10 ∷ pos 3000 ∷ pos 3001 ∷ pos 3002 ∷ pos 3003 ∷ pos 3004 ∷ minus 5 ∷ []

-- component 0 looked up in each of three columns
abbrev pub own_columns : List ℕ
own_columns = mapping 0 1 0 ++ mapping 0 1 1 ++ mapping 0 1 2

-- two columns, or three, of 8 bits and two rows
abbrev pub two_columns : List ℕ → List Def → Lists
two_columns mappings ds = mapped 2 (7 ∷ 7 ∷ []) (10 ∷ 11 ∷ 20 ∷ 21 ∷ []) mappings ds

abbrev pub three_columns : List ℕ → List Def → Lists
three_columns mappings ds = mapped 2 (7 ∷ 7 ∷ 7 ∷ []) (10 ∷ 11 ∷ 12 ∷ 20 ∷ 21 ∷ 22 ∷ []) mappings ds

-- three points at 0, 1 and 2, each with its mark
abbrev pub three_marked : ℕ → ℕ → ℕ → Finishing
three_marked a b c =
    finished (A wide 1 high 1 bits 8 sign 0 at 0 mark a ∷ B wide 1 high 1 bits 8 sign 0 at 1 mark b ∷ C wide 1 high 1 bits 8 sign 0 at 2 mark c ∷ [] over pos 1 ∷ pos 2 ∷ pos 3 ∷ [])

-- the pair's points with B first, each with its mark
abbrev pub swapped_pair : ℕ → ℕ → Finishing
swapped_pair b a = finished (B wide 1 high 1 bits 8 sign 0 at 1 mark b ∷ A wide 1 high 1 bits 8 sign 0 at 0 mark a ∷ [] over pos 0 ∷ pos 1 ∷ [])

-- records of one name, one sample each, from index 0 on
abbrev pub points_from : ℕ → ℕ → List ℤ → List (List ℕ)
points_from name first [] = []
points_from name first (s ∷ ss) = point name first ∷ points_from name (suc first) ss

abbrev pub points : ℕ → List ℤ → Finishing
points name samples = finished (points_from name 0 samples over samples)

-- a file with a palette of one column of 9 bits and two entries, 8 bytes in all
abbrev pub nine_bits : List ℕ
nine_bits = before ++ 8 ∷ two 258 ++ two 259

-- a file with a palette of two columns and one entry at 3, and mappings from 7 on
abbrev pub three_mappings : List ℕ
three_mappings = before ++ 7 ∷ 7 ∷ 10 ∷ 11 ∷ [] ++ own_columns

-- a file with two definitions at 3, 15 bytes in all
abbrev pub two_definitions : List ℕ
two_definitions = before ++ definition_fields (def 0 0 2 ∷ def 1 0 1 ∷ [])

abbrev pub cases : Cases
cases =
    -- columns of 32 bits, of 8 with a sign and of 9: an entry of 2^31 or more becomes itself minus 2^32, and no other is changed
    A wide 3 high 1 bits 8 sign 0 at 0 mark 6 ∷ [] over pos 0 ∷ pos 1 ∷ pos 2 ∷ []
    with mapped 3 (31 ∷ 135 ∷ 8 ∷ [])
    (four 2147483647 ++ 255 ∷ two 258 ++ four 2147483648 ++ 128 ∷ two 511 ++ four 4294967295 ++ 0 ∷ two 0)
    own_columns []
    into enough gives
    finished (A wide 3 high 1 bits 32 sign 0 at 0 mark 6 ∷ A wide 3 high 1 bits 8 sign 1 at 3 mark 6 ∷ A wide 3 high 1 bits 9 sign 0 at 6 mark 6 ∷ []
    over pos 2147483647 ∷ minus 2147483648 ∷ minus 1 ∷ pos 255 ∷ pos 128 ∷ pos 0 ∷ pos 258 ∷ pos 511 ∷ pos 0 ∷ []) ∣
    -- three entries: below 0 the first, above the last the last
    A wide 7 high 1 bits 8 sign 1 at 0 mark 9 ∷ [] over minus 2147483648 ∷ minus 1 ∷ pos 0 ∷ pos 1 ∷ pos 2 ∷ pos 3 ∷ pos 2147483647 ∷ []
    with mapped 3 (7 ∷ []) (10 ∷ 20 ∷ 30 ∷ []) (mapping 0 1 0) [] into enough gives
    finished (A wide 7 high 1 bits 8 sign 0 at 0 mark 9 ∷ [] over pos 10 ∷ pos 10 ∷ pos 10 ∷ pos 20 ∷ pos 30 ∷ pos 30 ∷ pos 30 ∷ []) ∣
    -- 1024 entries, of which the last is another
    A wide 3 high 1 bits 8 sign 0 at 0 mark 9 ∷ [] over pos 1022 ∷ pos 1023 ∷ pos 1024 ∷ []
    with mapped 1024 (7 ∷ []) (replicate 1023 5 ++ 6 ∷ []) (mapping 0 1 0) [] into enough gives
    finished (A wide 3 high 1 bits 8 sign 0 at 0 mark 9 ∷ [] over pos 5 ∷ pos 6 ∷ pos 6 ∷ []) ∣
    -- a direct channel beside one that is looked up: each with its component's size and its column's depth and sign
    sizes with beside into enough gives finished beside_planes ∣
    -- components as they are: packed, and one without samples keeps its number
    gap with plain into enough gives
    finished (A wide 3 high 2 bits 16 sign 1 at 0 mark 5 ∷ B wide 5 high 7 bits 10 sign 0 at no_data mark 6 ∷ C wide 1 high 1 bits 8 sign 0 at 6 mark 7 ∷ []
    over pos 3000 ∷ pos 3001 ∷ pos 3002 ∷ pos 3003 ∷ pos 3004 ∷ minus 5 ∷ pos 90 ∷ []) ∣
    -- records change places, samples stay; C's mark is the definition's, B's too, A's is its own
    gap with defined (def 0 0 3 ∷ def 1 2 0 ∷ def 2 0 1 ∷ []) into enough gives
    finished (C wide 1 high 1 bits 8 sign 0 at 6 mark 0 ∷ B wide 5 high 7 bits 10 sign 0 at no_data mark 2 ∷ A wide 3 high 2 bits 16 sign 1 at 0 mark 5 ∷ []
    over pos 3000 ∷ pos 3001 ∷ pos 3002 ∷ pos 3003 ∷ pos 3004 ∷ minus 5 ∷ pos 90 ∷ []) ∣
    -- no component
    [] over [] with plain into room 0 0 gives finished ([] over []) ∣
    -- more columns than components, and fewer
    one (pos 1) with three_columns own_columns [] into enough gives points A (pos 20 ∷ pos 21 ∷ pos 22 ∷ []) ∣
    pair with mapped 2 (7 ∷ []) (10 ∷ 20 ∷ []) (mapping 1 1 0) [] into enough gives points B (pos 20 ∷ []) ∣
    -- a palette without mappings is dropped
    one (pos 1) with lists nine_bits (palette 3 2 1) none none into enough gives points A (pos 1 ∷ []) ∣
    -- with one component a direct mapping other than the first corrects all; the first alone corrects none, and with two components nothing is corrected
    one (pos 1) with two_columns (mapping 0 0 0 ++ mapping 0 0 0) [] into enough gives points A (pos 20 ∷ pos 21 ∷ []) ∣
    one (pos 1) with three_columns (mapping 0 1 0 ++ mapping 0 1 1 ++ mapping 0 0 0) [] into enough gives points A (pos 20 ∷ pos 21 ∷ pos 22 ∷ []) ∣
    one (pos 1) with two_columns (mapping 0 0 0 ++ mapping 0 1 1) [] into enough gives points A (pos 1 ∷ pos 21 ∷ []) ∣
    pair with two_columns (mapping 1 1 0 ++ mapping 1 0 0) [] into enough gives points B (pos 20 ∷ pos 1 ∷ []) ∣
    -- with any ignore flag but 0 components are copied, whatever mappings and definitions say
    one (pos 1) with two_columns (mapping 0 1 0 ++ mapping 0 1 1) (def 0 1 0 ∷ def 1 2 0 ∷ []) into ignoring 1 gives points A (pos 1 ∷ []) ∣
    one (pos 1) with two_columns (mapping 7 7 7 ++ mapping 7 7 7) (def 5 1 0 ∷ []) into ignoring 7 gives points A (pos 1 ∷ []) ∣
    blank_first with two_columns (mapping 0 1 0 ++ mapping 0 1 1) [] into ignoring 1 gives finished blank_first ∣
    -- but what is outside its list, or the room, is tested
    one (pos 1) with lists nine_bits (palette 3 3 1) none none into ignoring 1 gives declined 29 0 ∣
    one (pos 1) with lists three_mappings (palette 3 1 2) (span 7 3) none into ignoring 7 gives declined 29 0 ∣
    one (pos 1) with lists two_definitions no_palette none (span 4 2) into ignoring 1 gives declined 29 0 ∣
    -- 25, the lowest definition: a colour, then a channel, that is not below the channels; each just inside; typ 1 too; asoc 0 and 65535 name no colour
    three with defined (def 0 0 1 ∷ def 1 0 4 ∷ def 5 0 2 ∷ []) into enough gives declined 25 1 ∣
    three with defined (def 0 0 1 ∷ def 1 0 2 ∷ def 3 1 0 ∷ def 4 1 0 ∷ []) into enough gives declined 25 2 ∣
    three with defined (def 0 1 3 ∷ def 1 1 4 ∷ def 2 0 65534 ∷ []) into enough gives declined 25 1 ∣
    three with defined (def 0 0 1 ∷ def 1 0 2 ∷ def 2 0 3 ∷ []) into enough gives three_marked 0 0 0 ∣
    three with defined (def 0 1 0 ∷ def 1 2 65535 ∷ def 2 0 65535 ∷ []) into enough gives three_marked 1 2 0 ∣
    -- the channels of a palette are its columns, whether there are more of them than components or fewer
    one (pos 1) with two_columns (mapping 0 1 0 ++ mapping 0 1 1) (def 1 3 2 ∷ []) into enough gives
    finished (point A 0 ∷ A wide 1 high 1 bits 8 sign 0 at 1 mark 3 ∷ [] over pos 20 ∷ pos 21 ∷ []) ∣
    one (pos 1) with two_columns (mapping 0 1 0 ++ mapping 0 1 1) (def 1 0 2 ∷ def 2 0 1 ∷ []) into enough gives declined 25 1 ∣
    pair with mapped 2 (7 ∷ []) (10 ∷ 20 ∷ []) (mapping 1 1 0) (def 0 0 1 ∷ def 1 0 1 ∷ []) into enough gives declined 25 1 ∣
    pair with mapped 2 (7 ∷ []) (10 ∷ 20 ∷ []) (mapping 1 1 0) (def 0 0 1 ∷ def 0 0 2 ∷ []) into enough gives declined 25 1 ∣
    -- 26 in edition 1, the lowest channel from 1 up that no definition names; channel 0 may lack one
    pair with defined (def 0 0 1 ∷ []) into enough gives declined 26 1 ∣
    four-points with defined (def 1 0 2 ∷ []) into enough gives declined 26 2 ∣
    four-points with defined (def 2 0 1 ∷ def 1 0 2 ∷ []) into enough gives declined 26 3 ∣
    three with defined (def 2 8 0 ∷ def 1 7 0 ∷ []) into enough gives three_marked 9 7 8 ∣
    one (pos 1) with three_columns own_columns (def 1 0 2 ∷ []) into enough gives declined 26 2 ∣
    pair with mapped 2 (7 ∷ []) (10 ∷ 20 ∷ []) (mapping 1 1 0) (def 0 9 0 ∷ []) into enough gives points B (pos 20 ∷ []) ∣
    -- edition 2: an opacity that comes before a colour keeps its mark, in either order of the definitions, for any flag but 0; in edition 1 the order decides
    pair with defined (def 0 1 0 ∷ def 1 0 1 ∷ []) into edition 1 gives swapped_pair 0 1 ∣
    pair with defined (def 1 0 1 ∷ def 0 1 0 ∷ []) into edition 1 gives swapped_pair 0 1 ∣
    pair with defined (def 0 1 0 ∷ def 1 0 1 ∷ []) into edition 2 gives swapped_pair 0 1 ∣
    pair with defined (def 0 1 0 ∷ def 1 0 1 ∷ []) into edition 4294967295 gives swapped_pair 0 1 ∣
    pair with defined (def 0 1 0 ∷ def 1 0 1 ∷ []) into edition 0 gives swapped_pair 9 0 ∣
    pair with defined (def 1 0 1 ∷ def 0 1 0 ∷ []) into edition 0 gives swapped_pair 9 1 ∣
    -- a channel defined twice has its last typ, before a move and after it; colours that clash leave each channel its own
    three with defined (def 0 1 0 ∷ def 1 2 0 ∷ def 2 3 0 ∷ def 0 4 0 ∷ []) into edition 1 gives three_marked 4 2 3 ∣
    pair with defined (def 0 1 0 ∷ def 1 0 1 ∷ def 0 2 0 ∷ []) into edition 1 gives swapped_pair 0 2 ∣
    pair with defined (def 1 5 0 ∷ def 0 1 0 ∷ def 1 0 1 ∷ []) into edition 1 gives swapped_pair 0 1 ∣
    pair with defined (def 0 0 1 ∷ def 1 0 1 ∷ []) into edition 1 gives swapped_pair 0 0 ∣
    -- 26 counts channel 0 too, also of a palette's channels, where there are definitions and they are applied; 25 goes before it, 27 after
    pair with defined (def 1 0 2 ∷ []) into edition 1 gives declined 26 0 ∣
    pair with defined (def 1 0 2 ∷ []) into enough gives finished (point A 0 ∷ B wide 1 high 1 bits 8 sign 0 at 1 mark 0 ∷ [] over pos 0 ∷ pos 1 ∷ []) ∣
    four-points with defined (def 1 0 2 ∷ []) into edition 1 gives declined 26 0 ∣
    four-points with defined (def 0 0 1 ∷ def 2 0 2 ∷ []) into edition 1 gives declined 26 1 ∣
    three with defined (def 1 1 0 ∷ def 0 2 0 ∷ def 2 3 0 ∷ []) into edition 1 gives three_marked 2 1 3 ∣
    one (pos 1) with two_columns (mapping 0 1 0 ++ mapping 0 1 1) (def 1 3 2 ∷ []) into edition 1 gives declined 26 0 ∣
    one (pos 1) with two_columns (mapping 9 1 0 ++ mapping 0 1 1) (def 1 3 2 ∷ []) into edition 1 gives declined 26 0 ∣
    one (pos 1) with two_columns (mapping 9 1 0 ++ mapping 0 1 1) (def 1 3 3 ∷ []) into edition 1 gives declined 25 0 ∣
    pair with plain into edition 1 gives finished pair ∣
    pair with defined (def 1 0 2 ∷ []) into flags 1 1 gives finished pair ∣
    pair with defined (def 0 1 0 ∷ def 1 0 1 ∷ []) into flags 1 1 gives finished pair ∣
    -- 27, the lowest mapping: another column than its own; no such component; a direct one with a column; another type
    one (pos 1) with three_columns (mapping 0 1 0 ++ mapping 0 1 2 ++ mapping 0 1 0) [] into enough gives declined 27 1 ∣
    one (pos 1) with three_columns (mapping 0 1 0 ++ mapping 1 1 1 ++ mapping 2 1 2) [] into enough gives declined 27 1 ∣
    pair with three_columns (mapping 1 1 0 ++ mapping 0 0 1 ++ mapping 0 2 2) [] into enough gives declined 27 1 ∣
    pair with three_columns (mapping 1 1 0 ++ mapping 0 0 0 ++ mapping 0 2 2) [] into enough gives declined 27 2 ∣
    pair with three_columns (mapping 1 1 0 ++ mapping 0 2 0 ++ mapping 2 1 2) [] into enough gives declined 27 1 ∣
    -- 28, the lowest mapping to a component without samples, direct or not; one that no mapping names is not asked for
    blank_first with three_columns (mapping 1 1 0 ++ mapping 0 1 1 ++ mapping 0 0 0) [] into enough gives declined 28 1 ∣
    blank_first with three_columns (mapping 1 1 0 ++ mapping 1 1 1 ++ mapping 0 0 0) [] into enough gives declined 28 2 ∣
    blank_first with two_columns (mapping 1 1 0 ++ mapping 1 0 0) [] into enough gives points B (pos 20 ∷ pos 1 ∷ []) ∣
    -- 30: 13 numbers for each channel, then the samples of all
    sizes with plain into room 25 7 gives declined 30 26 ∣
    sizes with plain into room 26 7 gives declined 30 8 ∣
    sizes with plain into room 26 8 gives
    finished (A wide 3 high 2 bits 16 sign 0 at 0 mark 5 ∷ B wide 2 high 1 bits 10 sign 1 at 6 mark 7 ∷ []
    over pos 3000 ∷ pos 3001 ∷ pos 3002 ∷ pos 3003 ∷ pos 3004 ∷ minus 5 ∷ pos 1 ∷ pos 0 ∷ []) ∣
    sizes with beside into room 25 8 gives declined 30 26 ∣
    sizes with beside into room 26 7 gives declined 30 8 ∣
    sizes with beside into room 26 8 gives finished beside_planes ∣
    one (pos 1) with three_columns own_columns [] into room 38 2 gives declined 30 39 ∣
    one (pos 1) with three_columns own_columns [] into room 39 2 gives declined 30 3 ∣
    blank_first with plain into room 26 0 gives declined 30 1 ∣
    -- with the ignore flag it is the components that need room
    one (pos 1) with three_columns own_columns [] into record { told = settings 1 0; records = 12; samples = 0 } gives declined 30 13 ∣
    one (pos 1) with three_columns own_columns [] into record { told = settings 1 0; records = 13; samples = 1 } gives points A (pos 1 ∷ []) ∣
    -- 29: a list of components that is one number short; one that is longer than the count asks for
    image (take 25 (joined (point A 0 ∷ point B 1 ∷ []))) 2 (pos 0 ∷ pos 1 ∷ []) with plain into enough gives declined 29 0 ∣
    image (joined (point A 0 ∷ point B 1 ∷ [])) 1 (pos 0 ∷ pos 1 ∷ []) with plain into enough gives points A (pos 0 ∷ []) ∣
    -- a plane whose last sample is just outside, and just inside; the last plane too
    A wide 3 high 2 bits 8 sign 0 at 4 mark 9 ∷ [] over take 9 lent with plain into enough gives declined 29 0 ∣
    A wide 1 high 2 bits 8 sign 0 at 9 mark 9 ∷ [] over lent with plain into enough gives
    finished (A wide 1 high 2 bits 8 sign 0 at 0 mark 9 ∷ [] over minus 5 ∷ pos 92 ∷ []) ∣
    point A 0 ∷ B wide 2 high 1 bits 8 sign 0 at 10 mark 9 ∷ [] over lent with plain into enough gives declined 29 0 ∣
    -- a plane without area: at the end of the list, and past it
    A wide 0 high 5 bits 8 sign 0 at 11 mark 9 ∷ [] over lent with plain into enough gives finished (A wide 0 high 5 bits 8 sign 0 at 0 mark 9 ∷ [] over []) ∣
    A wide 5 high 0 bits 8 sign 0 at 12 mark 9 ∷ [] over lent with plain into enough gives declined 29 0 ∣
    -- a palette of no entry; of 1025 entries, and of 256 columns, though both lie in the file; of one entry more than the file holds, and in a file one byte short; one of no columns is none
    one (pos 1) with lists nine_bits (palette 3 0 1) none none into enough gives declined 29 0 ∣
    one (pos 1) with lists (before ++ 7 ∷ replicate 1025 5) (palette 3 1025 1) none none into enough gives declined 29 0 ∣
    one (pos 1) with lists (before ++ replicate 512 0) (palette 3 1 255) none none into enough gives points A (pos 1 ∷ []) ∣
    one (pos 1) with lists (before ++ replicate 512 0) (palette 3 1 256) none none into enough gives declined 29 0 ∣
    one (pos 1) with lists nine_bits (palette 3 3 1) none none into enough gives declined 29 0 ∣
    one (pos 1) with lists (take 7 nine_bits) (palette 3 2 1) none none into enough gives declined 29 0 ∣
    one (pos 1) with lists [] (palette 9999 1025 0) none none into enough gives points A (pos 1 ∷ []) ∣
    -- another number of mappings than of columns; mappings up to the end of the file, and one byte short; without a palette; none at all, wherever their place is
    one (pos 1) with lists three_mappings (palette 3 1 2) (span 7 1) none into enough gives declined 29 0 ∣
    one (pos 1) with lists three_mappings (palette 3 1 2) (span 7 3) none into enough gives declined 29 0 ∣
    one (pos 1) with lists (take 15 three_mappings) (palette 3 1 2) (span 7 2) none into enough gives points A (pos 10 ∷ pos 11 ∷ []) ∣
    one (pos 1) with lists (take 14 three_mappings) (palette 3 1 2) (span 7 2) none into enough gives declined 29 0 ∣
    one (pos 1) with lists three_mappings no_palette (span 7 2) none into enough gives declined 29 0 ∣
    one (pos 1) with lists [] no_palette (span 9999 0) (span 9999 0) into enough gives points A (pos 1 ∷ []) ∣
    -- definitions up to the end of the file, and one byte short
    pair with lists two_definitions no_palette none (span 3 2) into enough gives
    finished (B wide 1 high 1 bits 8 sign 0 at 1 mark 0 ∷ point A 0 ∷ [] over pos 0 ∷ pos 1 ∷ []) ∣
    pair with lists (take 14 two_definitions) no_palette none (span 3 2) into enough gives declined 29 0 ∣
    -- of several numbers the first in the order 29, 25, 26, 27, 28, 30
    blank_first with cut 35 (three_columns (mapping 1 1 0 ++ mapping 0 1 1 ++ mapping 0 1 1) (def 0 0 1 ∷ def 9 0 2 ∷ [])) into room 0 0 gives declined 29 0 ∣
    blank_first with three_columns (mapping 1 1 0 ++ mapping 0 1 1 ++ mapping 0 1 1) (def 0 0 1 ∷ def 9 0 2 ∷ []) into room 0 0 gives declined 25 1 ∣
    blank_first with three_columns (mapping 1 1 0 ++ mapping 0 1 1 ++ mapping 0 1 1) (def 0 0 1 ∷ def 1 0 2 ∷ []) into room 0 0 gives declined 26 2 ∣
    blank_first with three_columns (mapping 1 1 0 ++ mapping 0 1 1 ++ mapping 0 1 1) (def 1 0 1 ∷ def 2 0 2 ∷ []) into room 0 0 gives declined 27 2 ∣
    blank_first with three_columns (mapping 1 1 0 ++ mapping 0 1 1 ++ mapping 0 1 2) [] into room 0 0 gives declined 28 1 ∣
    blank_first with three_columns (mapping 1 1 0 ++ mapping 1 1 1 ++ mapping 1 1 2) [] into room 0 0 gives declined 30 39 ∣
    blank_first with three_columns (mapping 1 1 0 ++ mapping 1 1 1 ++ mapping 1 1 2) [] into room 39 0 gives declined 30 3 ∣
    end

abbrev pub results : Cases → List Finishing
results end = []
results (g gives o ∣ rest) = finish g.handed g.kept ∷ results rest

abbrev pub expected : Cases → List Finishing
expected end = []
expected (g gives o ∣ rest) = o ∷ expected rest

-- the first n samples of row y of a plane, and the first n rows
abbrev pub row_of : Image → ℕ → ℕ → ℕ → List ℤ
row_of i p y zero = []
row_of i p y (suc n) = row_of i p y n ++ (sample_at i p y n ∷ [])

abbrev pub rows_of : Image → ℕ → ℕ → ℕ → List (List ℤ)
rows_of i p w zero = []
rows_of i p w (suc n) = rows_of i p w n ++ (row_of i p n w ∷ [])

pub finishing-cases : results cases ≡ expected cases
unfolding table number bytes entry_bytes row_bytes Cji definitions_to marked_position least_counted exchange define run_definitions size lowest channels component_of type_of displayed lookup value_for value_of channel_samples packed start_of counted expanded flat picture fitted colour_checks checks finish
finishing-cases = refl

-- A is two rows of three, where it was lent and where it was put
pub rows_of-samples : (rows_of sizes 0 3 2 ≡ (pos 3000 ∷ pos 3001 ∷ pos 3002 ∷ []) ∷ (pos 3003 ∷ pos 3004 ∷ minus 5 ∷ []) ∷ []) × (rows_of beside_planes 1 3 2 ≡ rows_of sizes 0 3 2)
rows_of-samples = (refl, refl)
