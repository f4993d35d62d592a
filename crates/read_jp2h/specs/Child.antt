-- I.5.3: the boxes inside a JP2 Header box, each kind with its reader. A box of another kind is skipped, and `res ` too (difference 38).
use Rattle.std.specs.Prelude.{ℕ, List}
use Rattle.box_kind.specs.declared.Jp2BoxType.{Jp2BoxType}
use Rattle.box_kind.specs.declared.Jp2BoxType.TheVariants.{None, JPIP, JP, FTYP, JP2H, IHDR, COLR, JP2C, URL, PCLR, CMAP, CDEF, DTBL, BPCC, JP2, RES, JP2I, XML, UUID, UINF, Unknown}
use Rattle.read_record.specs.declared.Jp2.{Jp2}
use Rattle.read_record.specs.State.{with_img_unknown}
use Rattle.read_record.specs.Answer.{Result, accepted}
use Rattle.read_image.specs.Ihdr.{ihdr}
use Rattle.read_image.specs.Bpcc.{bpcc}
use Rattle.read_colour.specs.Colr.{colr}
use Rattle.read_palette.specs.Pclr.{pclr}
use Rattle.read_channels.specs.Cmap.{cmap}
use Rattle.read_channels.specs.Cdef.{cdef}
use Rattle.read_jp2h.specs.Split.{Box}

-- a box that is skipped sets the unknown bits of the image state
abbrev pub skipped : ℕ → ℕ → List ℕ → Jp2 → Result
skipped place start c j = accepted (with_img_unknown j)

abbrev pub reader : Jp2BoxType → ℕ → ℕ → List ℕ → Jp2 → Result
reader IHDR = ihdr
reader BPCC = bpcc
reader COLR = colr
reader PCLR = pclr
reader CMAP = cmap
reader CDEF = cdef
reader None = skipped
reader JPIP = skipped
reader JP = skipped
reader FTYP = skipped
reader JP2H = skipped
reader JP2C = skipped
reader URL = skipped
reader DTBL = skipped
reader JP2 = skipped
reader RES = skipped
reader JP2I = skipped
reader XML = skipped
reader UUID = skipped
reader UINF = skipped
reader (Unknown n) = skipped

abbrev pub child : Box → Jp2 → Result
child b j = reader b.kind b.place b.start b.content j
