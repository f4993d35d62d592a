-- The premises of demand 3 can be met, by as few definitions as there can be and by definitions of every sort: small pictures, without a palette and with one, and the planes that they are finished to.
use Rattle.std.specs.Prelude.{ℕ, ◌*◌, ◌≡◌, List, [], ◌∷◌, ◌++◌, pos, replicate}
use Rattle.box_kind.specs.declared.Jp2BoxType.TheVariants.{PCLR, CMAP, CDEF}
use Rattle.read_record.specs.declared.Jp2.{Jp2}
use Rattle.read_rules.specs.Files.{two, box_of, ihdr_box, picture_file as file_of}
use Rattle.picture_rules.specs.Image.{Image, image}
use Rattle.picture_rules.specs.Handed.{Handed, settings}
use Rattle.picture_rules.specs.Words.{Accepted, Defined, Clear}
use Rattle.picture_rules.specs.Finish.{Finishing, finished}
use Rattle.picture_rules.specs.OrderFreedom.{AlikeButOrder}
use Rattle.picture_rules.specs.Whole.{handed, pictured}

-- one definition, or mapping, as it is written
abbrev pub definition_bytes : ℕ → ℕ → ℕ → List ℕ
definition_bytes channel typ asoc = two channel ++ two typ ++ two asoc

abbrev pub mapping_bytes : ℕ → ℕ → ℕ → List ℕ
mapping_bytes component typ column = two component ++ typ ∷ column ∷ []

-- three definitions, which turn the colours round, and the same in another order
abbrev pub turned : List ℕ
turned = definition_bytes 0 0 3 ++ definition_bytes 1 0 2 ++ definition_bytes 2 0 1

abbrev pub otherwise-turned : List ℕ
otherwise-turned = definition_bytes 1 0 2 ++ definition_bytes 0 0 3 ++ definition_bytes 2 0 1

-- of n definitions
abbrev pub cdef_box : ℕ → List ℕ → List ℕ
cdef_box n definitions = box_of CDEF (two n ++ definitions)

-- a component of a width, 1 high and of 8 bits, with its first sample at an index
abbrev pub plane_record : ℕ → ℕ → List ℕ
plane_record wide start = 1 ∷ 1 ∷ wide ∷ 1 ∷ 0 ∷ 0 ∷ 8 ∷ 8 ∷ 0 ∷ 0 ∷ 0 ∷ start ∷ 0 ∷ []

-- a component of one sample, and the record of a plane of one sample that has a mark
abbrev pub point_record : ℕ → ℕ → List ℕ
point_record start mark = 1 ∷ 1 ∷ 1 ∷ 1 ∷ 0 ∷ 0 ∷ 8 ∷ 8 ∷ 0 ∷ 0 ∷ 0 ∷ start ∷ mark ∷ []

-- in an edition, with the file and the image, and room for the numbers of so many planes and for so many samples
abbrev pub example_in : ℕ → List ℕ → Image → ℕ → ℕ → Handed
example_in edition2 file picture planes room = record { file = file; image = picture; settings = settings 0 edition2; records = 13 * planes; samples = room }

abbrev pub example_of : List ℕ → Image → ℕ → ℕ → Handed
example_of file picture planes room = example_in 0 file picture planes room

-- three components of one sample each
abbrev pub direct_file : List ℕ → List ℕ
direct_file definitions = file_of (ihdr_box 3 ++ cdef_box 3 definitions)

abbrev pub direct_example : Handed
direct_example = example_of (direct_file turned) (image (plane_record 1 0 ++ plane_record 1 1 ++ plane_record 1 2) 3 (pos 10 ∷ pos 20 ∷ pos 30 ∷ [])) 3 3

-- the third is the first plane
abbrev pub direct_planes : Image
direct_planes = image (plane_record 1 2 ++ plane_record 1 1 ++ plane_record 1 0) 3 (pos 10 ∷ pos 20 ∷ pos 30 ∷ [])

-- one component of two samples, which a palette of two rows and three columns maps to three channels
abbrev pub paletted_file : List ℕ → List ℕ
paletted_file definitions =
    file_of (ihdr_box 1
    ++ box_of PCLR (two 2 ++ 3 ∷ 7 ∷ 7 ∷ 7 ∷ 10 ∷ 20 ∷ 30 ∷ 40 ∷ 50 ∷ 60 ∷ [])
    ++ box_of CMAP (mapping_bytes 0 1 0 ++ mapping_bytes 0 1 1 ++ mapping_bytes 0 1 2)
    ++ cdef_box 3 definitions)

abbrev pub paletted : Handed
paletted = example_of (paletted_file turned) (image (plane_record 2 0) 1 (pos 1 ∷ pos 0 ∷ [])) 3 6

-- each channel has its column's entries, and the third is the first plane
abbrev pub paletted_planes : Image
paletted_planes = image (plane_record 2 4 ++ plane_record 2 2 ++ plane_record 2 0) 3 (pos 40 ∷ pos 10 ∷ pos 50 ∷ pos 20 ∷ pos 60 ∷ pos 30 ∷ [])

-- two components and one definition, which leaves channel 0 undefined
abbrev pub single : Handed
single = example_of (file_of (ihdr_box 2 ++ cdef_box 1 (definition_bytes 1 0 2))) (image (point_record 0 7 ++ point_record 1 7) 2 (pos 10 ∷ pos 20 ∷ [])) 2 2

abbrev pub single_planes : Image
single_planes = image (point_record 0 7 ++ point_record 1 0) 2 (pos 10 ∷ pos 20 ∷ [])

-- definitions that clash nowhere, though they share numbers: colour 1, two channels of another type that go with it, two channels of type 0 that go with the whole image, and two with nothing
abbrev pub shared : Handed
shared =
    example_of (file_of (ihdr_box 7
    ++ cdef_box 7
    (definition_bytes 6 0 1 ++ definition_bytes 1 1 1 ++ definition_bytes 2 1 1 ++ definition_bytes 3 0 0 ++ definition_bytes 4 0 0 ++ definition_bytes 5 0 65535 ++ definition_bytes 0 0 65535)))
    (image (point_record 0 7 ++ point_record 1 7 ++ point_record 2 7 ++ point_record 3 7 ++ point_record 4 7 ++ point_record 5 7 ++ point_record 6 7) 7
    (pos 10 ∷ pos 20 ∷ pos 30 ∷ pos 40 ∷ pos 50 ∷ pos 60 ∷ pos 70 ∷ []))
    7 7

-- channel 6 is the first plane
abbrev pub shared_planes : Image
shared_planes =
    image (point_record 6 7 ++ point_record 1 1 ++ point_record 2 1 ++ point_record 3 0 ++ point_record 4 0 ++ point_record 5 0 ++ point_record 0 0) 7
    (pos 10 ∷ pos 20 ∷ pos 30 ∷ pos 40 ∷ pos 50 ∷ pos 60 ∷ pos 70 ∷ [])

-- edition 2: two components, of which the first is opacity and the second the only colour, each with mark 7
abbrev pub opacity_file : List ℕ → List ℕ
opacity_file definitions = file_of (ihdr_box 2 ++ cdef_box 2 definitions)

-- the opacity is listed first, or last
abbrev pub listed_first : List ℕ
listed_first = definition_bytes 0 1 0 ++ definition_bytes 1 0 1

abbrev pub listed_last : List ℕ
listed_last = definition_bytes 1 0 1 ++ definition_bytes 0 1 0

abbrev pub opacity_example : Handed
opacity_example = example_in 1 (opacity_file listed_first) (image (point_record 0 7 ++ point_record 1 7) 2 (pos 10 ∷ pos 20 ∷ [])) 2 2

-- the colour is the first plane, and each plane has its own channel's mark
abbrev pub opacity_planes : Image
opacity_planes = image (point_record 1 0 ++ point_record 0 1) 2 (pos 10 ∷ pos 20 ∷ [])

-- a picture is accepted with some record, with definitions that are present, applied and clash nowhere
pub record RuleMet (h : Handed) (planes : Image) : Type 0 where
  pub kept : Jp2
  pub accepted : Accepted h kept planes
  pub defined : Defined h kept
  pub clear : Clear h kept

-- and another file is alike in all but their order
pub record Met (h : Handed) (planes : Image) (other : List ℕ) : Type 0 where
  pub kept : Jp2
  pub accepted : Accepted h kept planes
  pub defined : Defined h kept
  pub clear : Clear h kept
  pub alike : AlikeButOrder h other kept
  pub other_order : other ≡ h.file → ⊥

-- both theorems of demand 3 speak of these
abbrev pub DirectMet : Type 0
DirectMet = Met direct_example direct_planes (direct_file otherwise-turned)

abbrev pub PaletteMet : Type 0
PaletteMet = Met paletted paletted_planes (paletted_file otherwise-turned)

-- in edition 2 too
abbrev pub OpacityMet : Type 0
OpacityMet = Met opacity_example opacity_planes (opacity_file listed_last)

-- what a caller hands in reaches reading and finishing, both flags too: the same file in edition 2 and in edition 1, and with the ignore flag in either
abbrev pub opacity_handed : ℕ → ℕ → Finishing
opacity_handed ignore edition2 = pictured (handed opacity_example.file (settings ignore edition2) opacity_example.image.components 2 opacity_example.image.samples (replicate 26 5) (replicate 2 (pos 5)))

pub record FlagsReach : Type 0 where
  pub second : opacity_handed 0 1 ≡ finished opacity_planes
  pub first : opacity_handed 0 0 ≡ finished (image (point_record 1 7 ++ point_record 0 0) 2 (pos 10 ∷ pos 20 ∷ []))
  pub ignored : (opacity_handed 1 0 ≡ finished opacity_example.image) × (opacity_handed 1 1 ≡ finished opacity_example.image)

-- the picture rule speaks of one definition, and of definitions that share numbers and clash nowhere
abbrev pub SingleMet : Type 0
SingleMet = RuleMet single single_planes

abbrev pub SharedMet : Type 0
SharedMet = RuleMet shared shared_planes
