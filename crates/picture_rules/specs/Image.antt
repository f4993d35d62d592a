-- A picture before it is finished, and after: components of thirteen numbers each in one list, and one list of samples.
use Rattle.std.specs.Prelude.{ℕ, ◌+◌, ◌*◌, ◌≤◌, ◌<◌, ◌≡◌, List, [], ◌++◌, ℤ, pos, length, get_or, drop}
use Rattle.box_number.specs.Table.{◌=?◌, otherwise, ◌⇒◌∣◌, table}
use Rattle.read_record.specs.Component as comp
pub use Rattle.read_record.specs.Component.{no_data, most_components}

pub record Image : Type 0 where
  pub components : List ℕ
  pub count : ℕ
  pub samples : List ℤ

abbrev pub image : List ℕ → ℕ → List ℤ → Image
image components count samples = record { components = components; count = count; samples = samples }

-- components without their samples
abbrev pub listed : List ℕ → Image
listed components = image components 0 []

-- number k of component c, by its name in Component.antt of read_record
abbrev pub component : Image → ℕ → ℕ → ℕ
component i c k = get_or i.components (comp.numbers_each * c + k) 0

abbrev pub width : Image → ℕ → ℕ
width i c = component i c comp.w

abbrev pub height : Image → ℕ → ℕ
height i c = component i c comp.h

-- data: the first sample's index, or no_data
abbrev pub first : Image → ℕ → ℕ
first i c = component i c comp.«data»

-- the mark
abbrev pub mark : Image → ℕ → ℕ
mark i c = component i c comp.alpha

-- the most samples of a picture
abbrev pub most_samples : ℕ
most_samples = 4294967294

-- the index of the sample at row y, column x, in a plane whose first sample has the index `start`
abbrev pub index_of : ℕ → ℕ → ℕ → ℕ → ℕ
index_of start w y x = start + y * w + x

-- the sample of component c at row y, column x
abbrev pub sample_at : Image → ℕ → ℕ → ℕ → ℤ
sample_at i c y x = get_or i.samples (index_of (first i c) (width i c) y x) (pos 0)

-- how many samples component c has
unfoldable pub size : Image → ℕ → ℕ
size i c = table (first i c =? no_data ⇒ 0 ∣ otherwise (height i c * width i c))

-- a destination d with a list at its front, and the rest as it was
abbrev pub fronted : {A : Type 0} → List A → List A → List A
fronted xs d = xs ++ drop (length xs) d

-- the list is at the front, what is behind it stays, and where it has room the length stays too
pub record Fronting (A : Type 0) : Type 0 where
  pub front : (xs d : List A) (i : ℕ) (none : A) → i < length xs → get_or (fronted xs d) i none ≡ get_or xs i none
  pub behind : (xs d : List A) (i : ℕ) (none : A) → length xs ≤ i → get_or (fronted xs d) i none ≡ get_or d i none
  pub long : (xs d : List A) → length xs ≤ length d → length (fronted xs d) ≡ length d
