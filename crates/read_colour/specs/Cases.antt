-- Colour boxes and the whole answer to each, computed. The box starts at 62 of its file, its content at 70.
use Rattle.std.specs.Prelude.{ℕ, ◌≡◌, refl, List, [], ◌∷◌, replicate}
use Rattle.box_number.specs.Number.{number}
use Rattle.box_number.specs.Table.{table}
use Rattle.read_record.specs.declared.Lab.{Lab}
use Rattle.read_record.specs.declared.Colour.{Colour}
use Rattle.read_record.specs.declared.Span.{Span}
use Rattle.read_record.specs.declared.Jp2.{Jp2}
use Rattle.read_record.specs.Record.{jp2, span, palette, lists, status}
use Rattle.read_record.specs.Answer.{Result, accepted, refused}
use Rattle.read_colour.specs.Colr.{lab, colr}

-- the nine numbers of CIELab, and how many of them count
abbrev pub lab_of : ℕ → ℕ → ℕ → ℕ → ℕ → ℕ → ℕ → ℕ → ℕ → ℕ → Lab
lab_of a b c d e f g h i count = record { numbers = a ∷ b ∷ c ∷ d ∷ e ∷ f ∷ g ∷ h ∷ i ∷ []; count = count }

abbrev pub none : Lab
none = lab_of 0 0 0 0 0 0 0 0 0 0

abbrev pub colour : ℕ → ℕ → ℕ → ℕ → Lab → ℕ → Colour
colour meth precedence approx enumcs l held = record { meth = meth; precedence = precedence; approx = approx; enumcs = enumcs; lab = l; held = held }

-- a record with a colour and a profile; all else is known too, and is to stay
abbrev pub record_with : Colour → Span → Jp2
record_with k icc =
    jp2 (record { h = 1; w = 2; numcomps = 3; bpc = 4; c = 5; unkc = 6; ipr = 7 }) k (record { brand = 8; minversion = 9 })
    (lists (span 10 11) (span 12 13) icc (palette 14 15 16) (span 17 18) (span 19 20)) (status 21 22 23 24)

-- no colour
abbrev pub bare : Jp2
bare = record_with (colour 0 0 0 0 none 0) (span 0 0)

-- no colour is held, and yet there are EnumCS, CIELab and a profile: no file gives such a record, but a caller may make one
abbrev pub mixed : Jp2
mixed = record_with (colour 7 8 9 16 (lab_of 1 2 3 4 5 6 7 8 9 9) 0) (span 300 4)

-- a colour is held
abbrev pub grey : Jp2
grey = record_with (colour 1 0 0 17 none 1) (span 0 0)

-- METH, PREC, APPROX, EnumCS 14, and the parameters
abbrev pub cielab_box : List ℕ → List ℕ
cielab_box parameters = 1 ∷ 2 ∷ 3 ∷ 0 ∷ 0 ∷ 0 ∷ 14 ∷ parameters

-- the record after a box: the one that the reader leaves, and after a refusal the one before it
abbrev pub after : Jp2 → Result → Jp2
after j (accepted k) = k
after j (refused number place) = j

-- whether a box is read, or a number of the table and the place
pub data Answer : Type 0 where
  Done : Answer
  Refused : ℕ → ℕ → Answer

abbrev pub answer : Result → Answer
answer (accepted k) = Done
answer (refused number place) = Refused number place

-- a table of contents, the record before each, and the answer with the record after it
infixr 20 ◌from◌gives◌with◌∣◌
pub data Cases : Type 0 where
  end : Cases
  ◌from◌gives◌with◌∣◌ : List ℕ → Jp2 → Answer → Jp2 → Cases → Cases

abbrev pub cases : Cases
cases =
    -- METH 1: EnumCS, and what comes after it is passed over
    1 ∷ 2 ∷ 3 ∷ 1 ∷ 2 ∷ 3 ∷ 4 ∷ [] from bare gives Done with record_with (colour 1 2 3 0x01020304 none 1) (span 0 0) ∣
    1 ∷ 2 ∷ 3 ∷ 0 ∷ 0 ∷ 0 ∷ 17 ∷ replicate 28 1 from bare gives Done with record_with (colour 1 2 3 17 none 1) (span 0 0) ∣
    -- EnumCS 14: 28 bytes give 14, 0 and the seven values; 0 bytes eight numbers; any other count the defaults
    cielab_box (0 ∷ 0 ∷ 0 ∷ 31 ∷ 0 ∷ 0 ∷ 0 ∷ 32 ∷ 0 ∷ 0 ∷ 0 ∷ 33 ∷ 0 ∷ 0 ∷ 0 ∷ 34 ∷ 0 ∷ 0 ∷ 0 ∷ 35 ∷ 0 ∷ 0 ∷ 0 ∷ 36 ∷ 1 ∷ 2 ∷ 3 ∷ 4 ∷ []) from bare gives Done with record_with (colour 1 2 3 14 (lab_of 14 0 31 32 33 34 35 36 0x01020304 9) 1) (span 0 0) ∣
    cielab_box [] from bare gives Done with record_with (colour 1 2 3 14 (lab_of 14 0 0 0 0 0 0 0x443530 0 8) 1) (span 0 0) ∣
    cielab_box (1 ∷ []) from bare gives Done with record_with (colour 1 2 3 14 (lab_of 14 0x44454600 0 0 0 0 0 0 0x443530 9) 1) (span 0 0) ∣
    cielab_box (replicate 27 1) from bare gives Done with record_with (colour 1 2 3 14 (lab_of 14 0x44454600 0 0 0 0 0 0 0x443530 9) 1) (span 0 0) ∣
    cielab_box (replicate 29 1) from bare gives Done with record_with (colour 1 2 3 14 (lab_of 14 0x44454600 0 0 0 0 0 0 0x443530 9) 1) (span 0 0) ∣
    -- METH 2: the profile stays in the file, an empty one too
    2 ∷ 4 ∷ 5 ∷ 6 ∷ 7 ∷ [] from bare gives Done with record_with (colour 2 4 5 0 none 1) (span 73 2) ∣
    2 ∷ 4 ∷ 5 ∷ [] from bare gives Done with record_with (colour 2 4 5 0 none 1) (span 73 0) ∣
    -- METH 0 or above 2: the three fields, and no colour is held
    0 ∷ 4 ∷ 5 ∷ [] from bare gives Done with record_with (colour 0 4 5 0 none 0) (span 0 0) ∣
    3 ∷ 4 ∷ 5 ∷ 0 ∷ 0 ∷ 0 ∷ 14 ∷ [] from bare gives Done with record_with (colour 3 4 5 0 none 0) (span 0 0) ∣
    255 ∷ 4 ∷ 5 ∷ [] from bare gives Done with record_with (colour 255 4 5 0 none 0) (span 0 0) ∣
    -- the crate has one slot for CIELab and the profile: each clears the other, and other boxes leave both
    2 ∷ 4 ∷ 5 ∷ 6 ∷ 7 ∷ [] from mixed gives Done with record_with (colour 2 4 5 16 none 1) (span 73 2) ∣
    cielab_box [] from mixed gives Done with record_with (colour 1 2 3 14 (lab_of 14 0 0 0 0 0 0 0x443530 0 8) 1) (span 0 0) ∣
    1 ∷ 2 ∷ 3 ∷ 0 ∷ 0 ∷ 0 ∷ 17 ∷ [] from mixed gives Done with record_with (colour 1 2 3 17 (lab_of 1 2 3 4 5 6 7 8 9 9) 1) (span 300 4) ∣
    3 ∷ 4 ∷ 5 ∷ [] from mixed gives Done with record_with (colour 3 4 5 16 (lab_of 1 2 3 4 5 6 7 8 9 9) 0) (span 300 4) ∣
    -- once a colour is held a box is skipped, even one of METH 1 without EnumCS
    2 ∷ 4 ∷ 5 ∷ 6 ∷ 7 ∷ [] from grey gives Done with grey ∣
    1 ∷ 4 ∷ 5 ∷ [] from grey gives Done with grey ∣
    cielab_box [] from grey gives Done with grey ∣
    -- 16: under 3 bytes, even when a colour is held; METH 1 with under 4 left; the record stays
    [] from mixed gives Refused 16 62 with mixed ∣
    3 ∷ 4 ∷ [] from mixed gives Refused 16 62 with mixed ∣
    3 ∷ 4 ∷ [] from grey gives Refused 16 62 with grey ∣
    1 ∷ 4 ∷ 5 ∷ [] from mixed gives Refused 16 62 with mixed ∣
    1 ∷ 4 ∷ 5 ∷ 0 ∷ 0 ∷ 0 ∷ [] from mixed gives Refused 16 62 with mixed ∣
    end

abbrev pub results : Cases → List (Answer × Jp2)
results end = []
results (c from j gives a with m ∣ rest) = let r = colr 62 70 c j in (answer r, after j r) ∷ results rest

abbrev pub expected : Cases → List (Answer × Jp2)
expected end = []
expected (c from j gives a with m ∣ rest) = (a, m) ∷ expected rest

pub colr-cases : results cases ≡ expected cases
unfolding table number lab colr
colr-cases = refl
