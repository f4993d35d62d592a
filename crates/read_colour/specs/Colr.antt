-- I.5.3.3, Colour Specification box: METH, PREC, APPROX (1 byte each), then EnumCS (4) and its parameters for METH 1, an ICC profile for METH 2.
-- Differences 8 and 17: a METH of 0 or above 2 leaves its three fields in the record, and the next colr is read; EnumCS may have any value, and 14 is CIELab. Difference 36: a further colr of fewer than 3 bytes is refused.
use Rattle.std.specs.Prelude.{ℕ, ◌+◌, ◌-◌, List, [], ◌∷◌, length}
use Rattle.box_number.specs.Number.{number}
use Rattle.box_number.specs.Table.{◌=?◌, ◌≠?◌, ◌<?◌, ◌and◌, otherwise, ◌⇒◌∣◌, table}
use Rattle.read_record.specs.declared.Lab.{Lab}
use Rattle.read_record.specs.declared.Colour.{Colour}
use Rattle.read_record.specs.declared.Span.{Span}
use Rattle.read_record.specs.declared.Jp2.{Jp2}
use Rattle.read_record.specs.Record.{span, with_colour, with_icc}
use Rattle.read_record.specs.Answer.{Result, accepted, refused}

abbrev pub METH : List ℕ → ℕ
METH c = number c 0 1

abbrev pub PREC : List ℕ → ℕ
PREC c = number c 1 1

abbrev pub APPROX : List ℕ → ℕ
APPROX c = number c 2 1

abbrev pub EnumCS : List ℕ → ℕ
EnumCS c = number c 3 4

-- METH: an enumerated colour space, an ICC profile
abbrev pub enumerated : ℕ
enumerated = 1

abbrev pub profiled : ℕ
profiled = 2

-- EnumCS of CIELab, its standard illuminant D50, and the crate's sign that ranges and offsets are the defaults
abbrev pub cielab : ℕ
cielab = 14

abbrev pub D50 : ℕ
D50 = 0x443530

abbrev pub defaults : ℕ
defaults = 0x44454600

-- CIELab: its parameters RL, OL, RA, OA, RB, OB, IL, or the defaults
unfoldable pub lab : List ℕ → Lab
lab c =
    table
    (length c =? 7 ⇒ record { numbers = cielab ∷ 0 ∷ 0 ∷ 0 ∷ 0 ∷ 0 ∷ 0 ∷ D50 ∷ 0 ∷ []; count = 8 }
    ∣ length c =? 35 ⇒ record { numbers = cielab ∷ 0 ∷ number c 7 4 ∷ number c 11 4 ∷ number c 15 4 ∷ number c 19 4 ∷ number c 23 4 ∷ number c 27 4 ∷ number c 31 4 ∷ []; count = 9 }
    ∣ otherwise (record { numbers = cielab ∷ defaults ∷ 0 ∷ 0 ∷ 0 ∷ 0 ∷ 0 ∷ 0 ∷ D50 ∷ []; count = 9 }))

-- no CIELab, and no profile; the crate has one slot for both, so that each takes the place of the other
abbrev pub no_lab : Lab
no_lab = record { numbers = 0 ∷ 0 ∷ 0 ∷ 0 ∷ 0 ∷ 0 ∷ 0 ∷ 0 ∷ 0 ∷ []; count = 0 }

abbrev pub no_profile : Span
no_profile = span 0 0

-- the three fields, and what METH makes of the rest
abbrev pub specified : List ℕ → ℕ → Lab → ℕ → Colour
specified c enumcs l held = record { meth = METH c; precedence = PREC c; approx = APPROX c; enumcs = enumcs; lab = l; held = held }

-- the box at a place of the file, with content c that begins at start; once a colour is held a further colr is skipped
unfoldable pub colr : ℕ → ℕ → List ℕ → Jp2 → Result
colr place start c j =
    let k = j.colour in
    table
    (length c <? 3 ⇒ refused 16 place
    ∣ k.held ≠? 0 ⇒ accepted j
    ∣ METH c =? enumerated and length c <? 7 ⇒ refused 16 place
    ∣ METH c =? enumerated and EnumCS c =? cielab ⇒ accepted (with_icc no_profile (with_colour (specified c cielab (lab c) 1) j))
    ∣ METH c =? enumerated ⇒ accepted (with_colour (specified c (EnumCS c) k.lab 1) j)
    ∣ METH c =? profiled ⇒ accepted (with_icc (span (start + 3) (length c - 3)) (with_colour (specified c k.enumcs no_lab 1) j))
    ∣ otherwise (accepted (with_colour (specified c k.enumcs k.lab k.held) j)))
