-- The header record before any box, and with one part changed.
use Rattle.std.specs.Prelude.{ℕ, [], ◌∷◌}
use Rattle.read_record.specs.declared.Image.{Image}
use Rattle.read_record.specs.declared.Colour.{Colour}
use Rattle.read_record.specs.declared.FileType.{FileType}
use Rattle.read_record.specs.declared.Span.{Span}
use Rattle.read_record.specs.declared.Palette.{Palette}
use Rattle.read_record.specs.declared.Lists.{Lists}
use Rattle.read_record.specs.declared.Status.{Status}
use Rattle.read_record.specs.declared.Jp2.{Jp2}

abbrev pub jp2 : Image → Colour → FileType → Lists → Status → Jp2
jp2 i c f l s = record { image = i; colour = c; filetype = f; lists = l; status = s }

-- a list that stays in the file
abbrev pub span : ℕ → ℕ → Span
span place count = record { place = place; count = count }

abbrev pub palette : ℕ → ℕ → ℕ → Palette
palette place entries columns = record { place = place; entries = entries; columns = columns }

abbrev pub lists : Span → Span → Span → Palette → Span → Span → Lists
lists cl bpcc icc pclr cmap cdef = record { cl = cl; bpcc = bpcc; icc = icc; pclr = pclr; cmap = cmap; cdef = cdef }

abbrev pub status : ℕ → ℕ → ℕ → ℕ → Status
status state imgstate hasjp2h hasihdr = record { state = state; imgstate = imgstate; hasjp2h = hasjp2h; hasihdr = hasihdr }

abbrev pub with_image : Image → Jp2 → Jp2
with_image i j = jp2 i j.colour j.filetype j.lists j.status

abbrev pub with_colour : Colour → Jp2 → Jp2
with_colour c j = jp2 j.image c j.filetype j.lists j.status

abbrev pub with_file_type : FileType → Jp2 → Jp2
with_file_type f j = jp2 j.image j.colour f j.lists j.status

abbrev pub with_lists : Lists → Jp2 → Jp2
with_lists l j = jp2 j.image j.colour j.filetype l j.status

abbrev pub with_status : Status → Jp2 → Jp2
with_status s j = jp2 j.image j.colour j.filetype j.lists s

abbrev pub with_cl : Span → Jp2 → Jp2
with_cl d j = let l = j.lists in with_lists (lists d l.bpcc l.icc l.pclr l.cmap l.cdef) j

abbrev pub with_bpcc : Span → Jp2 → Jp2
with_bpcc d j = let l = j.lists in with_lists (lists l.cl d l.icc l.pclr l.cmap l.cdef) j

abbrev pub with_icc : Span → Jp2 → Jp2
with_icc d j = let l = j.lists in with_lists (lists l.cl l.bpcc d l.pclr l.cmap l.cdef) j

abbrev pub with_pclr : Palette → Jp2 → Jp2
with_pclr d j = let l = j.lists in with_lists (lists l.cl l.bpcc l.icc d l.cmap l.cdef) j

abbrev pub with_cmap : Span → Jp2 → Jp2
with_cmap d j = let l = j.lists in with_lists (lists l.cl l.bpcc l.icc l.pclr d l.cdef) j

abbrev pub with_cdef : Span → Jp2 → Jp2
with_cdef d j = let l = j.lists in with_lists (lists l.cl l.bpcc l.icc l.pclr l.cmap d) j

abbrev pub with_state : ℕ → Jp2 → Jp2
with_state s j = let t = j.status in with_status (status s t.imgstate t.hasjp2h t.hasihdr) j

abbrev pub with_imgstate : ℕ → Jp2 → Jp2
with_imgstate s j = let t = j.status in with_status (status t.state s t.hasjp2h t.hasihdr) j

abbrev pub with_has_jp2h : Jp2 → Jp2
with_has_jp2h j = let t = j.status in with_status (status t.state t.imgstate 1 t.hasihdr) j

abbrev pub with_has_ihdr : Jp2 → Jp2
with_has_ihdr j = let t = j.status in with_status (status t.state t.imgstate t.hasjp2h 1) j

-- the record before any box
abbrev pub blank : Jp2
blank =
    jp2 (record { h = 0; w = 0; numcomps = 0; bpc = 0; c = 0; unkc = 0; ipr = 0 })
    (record { meth = 0; precedence = 0; approx = 0; enumcs = 0; lab = record { numbers = 0 ∷ 0 ∷ 0 ∷ 0 ∷ 0 ∷ 0 ∷ 0 ∷ 0 ∷ 0 ∷ []; count = 0 }; held = 0 })
    (record { brand = 0; minversion = 0 })
    (lists (span 0 0) (span 0 0) (span 0 0) (palette 0 0 0) (span 0 0) (span 0 0))
    (status 0 0 0 0)
