-- What is answered, with the numbers of the table of refusals: each cause has its number, and each number says why a file, a picture or a request is turned down.
use Rattle.std.specs.Prelude.{ℕ, ◌≤◌, ◌≡◌, MatchResult}
use Rattle.std.specs.Prelude as std
use Rattle.box_refusal.specs.declared.Cause.{Cause}
use Rattle.box_refusal.specs.declared.Cause.TheVariants as cause
use Rattle.box_refusal.specs.declared.NoCause.{NoCause}
use Rattle.box_refusal.specs.declared.Refusal.{Refusal}

abbrev pub number : Cause → ℕ
number cause.FileTooLong = 1
number cause.CodestreamTooEarly = 2
number cause.LengthBelowHeader = 3
number cause.PastTheFile = 4
number cause.BeforeSignature = 5
number cause.BeforeFileType = 6
number cause.Signature = 7
number cause.FileType = 8
number cause.HeaderTooEarly = 9
number cause.ChildHeader = 10
number cause.ChildLength = 11
number cause.NoImageHeader = 12
number cause.ImageHeaderLength = 13
number cause.ZeroSize = 14
number cause.TooManyComponents = 15
number cause.ColourTooShort = 16
number cause.BitsLength = 17
number cause.SecondList = 18
number cause.PaletteSize = 19
number cause.PaletteTooShort = 20
number cause.MappingWithoutPalette = 21
number cause.MappingTooShort = 22
number cause.DefinitionTooShort = 23
number cause.NoDefinitions = 24
number cause.ChannelMisnamed = 25
number cause.ChannelUndefined = 26
number cause.MappingFails = 27
number cause.NoSamples = 28
number cause.OutsideItsList = 29
number cause.DestinationTooShort = 30
number cause.ComponentCount = 31
number cause.Precision = 32
number cause.EmptyPicture = 33
number cause.TooLongToWrite = 34

-- an answer that is accepted with a value, or refused with a number of the table and a place: an offset, an index or a needed length
pub data Told (A : Type 0) : Type 0 where
  accepted : A → Told A
  refused : ℕ → ℕ → Told A

-- what the code answers, in the numbers of the table
abbrev pub told : {A : Type 0} → std.Result A (Refusal ℕ) → Told A
told (std.Ok a) = accepted a
told (std.Err r) = refused (number r.cause) r.place

-- the cause of a number, or none, where the number is not in the table
abbrev pub HasNumber : ℕ → std.Result Cause NoCause → Type 0
HasNumber n r = MatchResult r (λ c. number c ≡ n) (λ e. (e.0 ≡ n) × (1 ≤ n → n ≤ 34 → ⊥))

-- each number has one cause, and the numbers are 1 to 34
pub record NumbersRight : Type 0 where
  pub one : (a b : Cause) → number a ≡ number b → a ≡ b
  pub range : (a : Cause) → (1 ≤ number a) × (number a ≤ 34)

-- two answers of which the same is told are the same
abbrev pub ToldOnce : Type 0 → Type 0
ToldOnce A = (a b : std.Result A (Refusal ℕ)) → told a ≡ told b → a ≡ b
