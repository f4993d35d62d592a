-- Each number of the table has one cause, and each answer is told once.
-- Assumes nothing.
use Rattle.std.proofs.Common.{arith, ◌≡◌, ℕ, ◌≤◌, ap, ◌∙◌, sym, refl, get_or}
use Rattle.std.specs.Prelude as std
use Rattle.std.specs.Prelude.{List, [], ◌∷◌}
use Rattle.box_refusal.specs.declared.Cause.{Cause}
use Rattle.box_refusal.specs.declared.Cause.TheVariants as cause
use Rattle.box_refusal.specs.declared.Refusal.{Refusal}
use Rattle.box_refusal.specs.Told.{Told, accepted, refused, number, told, NumbersRight, ToldOnce}

-- the causes from number 0 on, which none has
abbrev causes : List Cause
causes =
    cause.FileTooLong ∷
    cause.FileTooLong ∷
    cause.CodestreamTooEarly ∷
    cause.LengthBelowHeader ∷
    cause.PastTheFile ∷
    cause.BeforeSignature ∷
    cause.BeforeFileType ∷
    cause.Signature ∷
    cause.FileType ∷
    cause.HeaderTooEarly ∷
    cause.ChildHeader ∷
    cause.ChildLength ∷
    cause.NoImageHeader ∷
    cause.ImageHeaderLength ∷
    cause.ZeroSize ∷
    cause.TooManyComponents ∷
    cause.ColourTooShort ∷
    cause.BitsLength ∷
    cause.SecondList ∷
    cause.PaletteSize ∷
    cause.PaletteTooShort ∷
    cause.MappingWithoutPalette ∷
    cause.MappingTooShort ∷
    cause.DefinitionTooShort ∷
    cause.NoDefinitions ∷
    cause.ChannelMisnamed ∷
    cause.ChannelUndefined ∷
    cause.MappingFails ∷
    cause.NoSamples ∷
    cause.OutsideItsList ∷
    cause.DestinationTooShort ∷
    cause.ComponentCount ∷
    cause.Precision ∷
    cause.EmptyPicture ∷
    cause.TooLongToWrite ∷
    []

abbrev cause_of : ℕ → Cause
cause_of n = get_or causes n cause.FileTooLong

back : (a : Cause) → cause_of (number a) ≡ a
back cause.FileTooLong = refl
back cause.CodestreamTooEarly = refl
back cause.LengthBelowHeader = refl
back cause.PastTheFile = refl
back cause.BeforeSignature = refl
back cause.BeforeFileType = refl
back cause.Signature = refl
back cause.FileType = refl
back cause.HeaderTooEarly = refl
back cause.ChildHeader = refl
back cause.ChildLength = refl
back cause.NoImageHeader = refl
back cause.ImageHeaderLength = refl
back cause.ZeroSize = refl
back cause.TooManyComponents = refl
back cause.ColourTooShort = refl
back cause.BitsLength = refl
back cause.SecondList = refl
back cause.PaletteSize = refl
back cause.PaletteTooShort = refl
back cause.MappingWithoutPalette = refl
back cause.MappingTooShort = refl
back cause.DefinitionTooShort = refl
back cause.NoDefinitions = refl
back cause.ChannelMisnamed = refl
back cause.ChannelUndefined = refl
back cause.MappingFails = refl
back cause.NoSamples = refl
back cause.OutsideItsList = refl
back cause.DestinationTooShort = refl
back cause.ComponentCount = refl
back cause.Precision = refl
back cause.EmptyPicture = refl
back cause.TooLongToWrite = refl

range : (a : Cause) → (1 ≤ number a) × (number a ≤ 34)
range cause.FileTooLong = (omega arith, omega arith)
range cause.CodestreamTooEarly = (omega arith, omega arith)
range cause.LengthBelowHeader = (omega arith, omega arith)
range cause.PastTheFile = (omega arith, omega arith)
range cause.BeforeSignature = (omega arith, omega arith)
range cause.BeforeFileType = (omega arith, omega arith)
range cause.Signature = (omega arith, omega arith)
range cause.FileType = (omega arith, omega arith)
range cause.HeaderTooEarly = (omega arith, omega arith)
range cause.ChildHeader = (omega arith, omega arith)
range cause.ChildLength = (omega arith, omega arith)
range cause.NoImageHeader = (omega arith, omega arith)
range cause.ImageHeaderLength = (omega arith, omega arith)
range cause.ZeroSize = (omega arith, omega arith)
range cause.TooManyComponents = (omega arith, omega arith)
range cause.ColourTooShort = (omega arith, omega arith)
range cause.BitsLength = (omega arith, omega arith)
range cause.SecondList = (omega arith, omega arith)
range cause.PaletteSize = (omega arith, omega arith)
range cause.PaletteTooShort = (omega arith, omega arith)
range cause.MappingWithoutPalette = (omega arith, omega arith)
range cause.MappingTooShort = (omega arith, omega arith)
range cause.DefinitionTooShort = (omega arith, omega arith)
range cause.NoDefinitions = (omega arith, omega arith)
range cause.ChannelMisnamed = (omega arith, omega arith)
range cause.ChannelUndefined = (omega arith, omega arith)
range cause.MappingFails = (omega arith, omega arith)
range cause.NoSamples = (omega arith, omega arith)
range cause.OutsideItsList = (omega arith, omega arith)
range cause.DestinationTooShort = (omega arith, omega arith)
range cause.ComponentCount = (omega arith, omega arith)
range cause.Precision = (omega arith, omega arith)
range cause.EmptyPicture = (omega arith, omega arith)
range cause.TooLongToWrite = (omega arith, omega arith)

pub numbers-right : NumbersRight
numbers-right = record {
  one = λ a b e. sym (back a) ∙ ap cause_of e ∙ back b;
  range = range;
}

-- what an answer of which this is told was
abbrev untold : {A : Type 0} → Told A → std.Result A (Refusal ℕ)
untold (accepted a) = std.Ok a
untold (refused n p) = std.Err (record { cause = cause_of n; place = p })

-- what is told of an answer, read back
read-back : {A : Type 0} (a : std.Result A (Refusal ℕ)) → untold (told a) ≡ a
read-back (std.Ok a) = refl
read-back (std.Err r) = ap (λ (c : Cause). std.Err (record { cause = c; place = r.place })) (back r.cause)

pub told-once : {A : Type 0} → ToldOnce A
told-once a b e = sym (read-back a) ∙ ap untold e ∙ read-back b
