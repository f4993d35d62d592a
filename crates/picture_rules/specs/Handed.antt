-- Everything that finishing takes: a file, its picture, the settings, and the room in the two destinations.
use Rattle.std.specs.Prelude.{ℕ, ◌≡◌, List}
pub use Rattle.picture_rules.specs.declared.Settings.{Settings}
use Rattle.picture_rules.specs.Image.{Image}

-- the settings: with any ignore flag but 0 the components are copied as they are; the flag edition2 picks the edition of the camera rules
abbrev pub settings : ℕ → ℕ → Settings
settings ignore edition2 = record { ignore = ignore; edition2 = edition2 }

-- edition 2 is picked
abbrev pub EditionTwo : Settings → Type 0
EditionTwo s = s.edition2 ≡ 0 → ⊥

-- the file's bytes, the components and their samples, the settings, and the lengths of the two destinations
pub record Handed : Type 0 where
  pub file : List ℕ
  pub image : Image
  pub settings : Settings
  pub records : ℕ
  pub samples : ℕ
