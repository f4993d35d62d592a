-- What is written is read back: the record from reading holds what the request said, and nothing else. All of it is said in the numbers of the request (Words.antt) and of document 01, and nothing in
-- the writer's own definitions: this page can be believed without believing Setup.antt.
use Rattle.std.specs.Prelude.{ℕ, ◌+◌, ◌-◌, ◌/◌, ◌%◌, ◌≤◌, ◌<◌, ◌≡◌, List, [], ◌∷◌, ◌++◌, length}
use Rattle.box_number.specs.Number.{number}
use Rattle.box_number.specs.Table.{◌=?◌, otherwise, ◌⇒◌∣◌, table}
use Rattle.read_record.specs.declared.Jp2.{Jp2}
use Rattle.read_record.specs.Record.{span, palette, status}
use Rattle.read_signature.specs.FileType as signature
use Rattle.read_image.specs.Bpcc as image
use Rattle.read_rules.specs.File.{codestream, read}
use Rattle.read_rules.specs.Free.{profile}
use Rattle.read_channels.specs.Definitions.{def}
use Rattle.read_channels.specs.Definitions as order
use Rattle.write_rules.specs.Request.{Request, precision, sign_of}
use Rattle.write_rules.specs.Words.{Corners, SameBits, OtherBits, SignTold, enumcs_of, colour_count, Opacity}
use Rattle.write_rules.specs.Writing.{written, write}

-- of a file f that was read to a record m, the byte for component c: the one in bpcc where bpc is 255, else bpc
unfoldable pub depth_byte : List ℕ → Jp2 → ℕ → ℕ
depth_byte f m c = table (m.image.bpc =? 255 ⇒ image.BPCi f m.lists.bpcc c ∣ otherwise m.image.bpc)

-- the bytes of the box bpcc, which move the boxes after it
unfoldable pub bpcc_bytes : Jp2 → ℕ
bpcc_bytes m = table (m.lists.bpcc.count =? 0 ⇒ 0 ∣ otherwise (8 + m.lists.bpcc.count))

-- the file type: brand and one compatible entry 0x6a703220. The list is behind the signature (12 bytes), a header (8), brand and version.
pub record FileTypeBack (f : List ℕ) (m : Jp2) : Type 0 where
  pub brand : m.filetype.brand ≡ 0x6a703220
  pub version : m.filetype.minversion ≡ 0
  pub list : m.lists.cl ≡ span 28 1
  pub entry : signature.CL f m.lists.cl 0 ≡ 0x6a703220

-- the size: from corner to corner, wrapping at 2^32
pub record SizeBack (r : Request) (m : Jp2) : Type 0 where
  pub height : (r.y0 + m.image.h) % 4294967296 ≡ r.y1
  pub high : m.image.h < 4294967296
  pub width : (r.x0 + m.image.w) % 4294967296 ≡ r.x1
  pub wide : m.image.w < 4294967296

-- the components: how many, the bits of each, and the sign of each that the file tells
pub record DepthsBack (r : Request) (f : List ℕ) (m : Jp2) : Type 0 where
  pub count : m.image.numcomps ≡ r.count
  pub bits : (c : ℕ) → c < r.count → depth_byte f m c % 128 + 1 ≡ precision r.components c
  pub signs : (c : ℕ) → c < r.count → SignTold r c → depth_byte f m c / 128 ≡ sign_of r.components c
  -- one byte for all components with the same bits, and no bpcc; else bpc is 255, and bpcc has a byte for each
  pub same : SameBits r → (m.image.bpc ≡ 255 → ⊥) × (m.lists.bpcc ≡ span 0 0)
  pub other : (c : ℕ) → OtherBits r c → (m.image.bpc ≡ 255) × (m.lists.bpcc ≡ span 70 r.count)

-- the colour: method 2 and the profile where it has a byte, else method 1 and the colour space
pub record ColourBack (r : Request) (f : List ℕ) (m : Jp2) : Type 0 where
  pub space : r.profile ≡ [] → (m.colour.meth ≡ 1) × (m.colour.enumcs ≡ enumcs_of r.space) × (m.lists.icc ≡ span 0 0)
  pub profiled : (r.profile ≡ [] → ⊥) → (m.colour.meth ≡ 2) × (m.colour.enumcs ≡ 0) × (m.lists.icc ≡ span (73 + bpcc_bytes m) (length r.profile))
  pub profile : profile f m ≡ r.profile

-- the channels where component o is the opacity: all are defined, the colours by their numbers 1, 2, .., o as the opacity (1) of the whole picture (0), and of the rest nothing is said (65535)
pub record DefinedBack (r : Request) (f : List ℕ) (m : Jp2) (o : ℕ) : Type 0 where
  pub list : m.lists.cdef ≡ span (87 + bpcc_bytes m) r.count
  pub colours : (c : ℕ) → c < colour_count r.space → order.definition f m.lists.cdef c ≡ def c 0 (c + 1)
  pub opacity : order.definition f m.lists.cdef o ≡ def o 1 0
  pub rest : (c : ℕ) → c < r.count → colour_count r.space ≤ c → (c ≡ o → ⊥) → order.definition f m.lists.cdef c ≡ def c 65535 65535

-- the channels: definitions where a component is the opacity, else none
pub record ChannelsBack (r : Request) (f : List ℕ) (m : Jp2) : Type 0 where
  pub defined : (o : ℕ) → Opacity r o → DefinedBack r f m o
  pub undefined : ((o : ℕ) → Opacity r o → ⊥) → m.lists.cdef ≡ span 0 0

-- the same in every file: C, UnkC, IPR, PREC and APPROX; a colour that is held and is not CIELab; no palette and no mapping; the four state bits, and that jp2h and ihdr were there
pub record AlwaysBack (m : Jp2) : Type 0 where
  pub c : m.image.c ≡ 7
  pub unkc : m.image.unkc ≡ 0
  pub ipr : m.image.ipr ≡ 0
  pub precedence : m.colour.precedence ≡ 0
  pub approximation : m.colour.approx ≡ 0
  pub held : m.colour.held ≡ 1
  pub lab : m.colour.lab.numbers ≡ 0 ∷ 0 ∷ 0 ∷ 0 ∷ 0 ∷ 0 ∷ 0 ∷ 0 ∷ 0 ∷ []
  pub labs : m.colour.lab.count ≡ 0
  pub palette : m.lists.pclr ≡ palette 0 0 0
  pub mappings : m.lists.cmap ≡ span 0 0
  pub status : m.status ≡ status 15 0 1 1

-- of a file f that was written for r and read to a record m
pub record ReadBack (r : Request) (f : List ℕ) (m : Jp2) : Type 0 where
  pub filetype : FileTypeBack f m
  pub size : Corners r → SizeBack r m
  pub depths : DepthsBack r f m
  pub colour : ColourBack r f m
  pub channels : ChannelsBack r f m
  pub always : AlwaysBack m

-- for every request that writing accepts, and any bytes as the codestream: reading answers the codestream at the offset that writing says
abbrev pub RoundTrip : Type 0
RoundTrip =
    (r : Request) (bs stream : List ℕ) → write r ≡ written bs → length bs + length stream ≤ 4294967295 →
    (m : Jp2) × (read (bs ++ stream) ≡ codestream (length bs) m) × ReadBack r (bs ++ stream) m

-- nothing is left open: what is read back is one record, all of its 41 numbers
abbrev pub OneRecord : Type 0
OneRecord = (r : Request) (f : List ℕ) (m n : Jp2) → Corners r → 1 ≤ r.count → ReadBack r f m → ReadBack r f n → m ≡ n

-- the last 8 bytes are the header of the codestream's box: its length with these 8, and 'jp2c'. Reading does not test the length.
abbrev pub StreamLength : Type 0
StreamLength =
    (r : Request) (bs : List ℕ) → write r ≡ written bs →
    (number bs (length bs - 8) 4 ≡ 8 + r.codestream) × (number bs (length bs - 4) 4 ≡ 0x6a703263)

-- a codestream of the length that the caller gave always makes a file that is not too long
abbrev pub FileFits : Type 0
FileFits = (r : Request) (bs stream : List ℕ) → write r ≡ written bs → length stream ≡ r.codestream → length bs + length stream ≤ 4294967295
