-- The positions of the channels of a picture.
use Rattle.std.specs.Prelude.{ℕ, ◌≤◌, ◌<◌, ◌≡◌, List, length, get_or}
use Rattle.read_record.specs.Component.{most_components}

-- n channels: channel c is at position positions c, position p has channel channels p, and the two are inverse to each other
pub record Positioned (n : ℕ) (positions channels : List ℕ) : Type 0 where
  pub few : n ≤ most_components
  pub positions-room : n ≤ length positions
  pub channels-room : n ≤ length channels
  pub positions-below : (c : ℕ) → c < n → get_or positions c 0 < n
  pub channels-below : (p : ℕ) → p < n → get_or channels p 0 < n
  pub there : (c : ℕ) → c < n → get_or channels (get_or positions c 0) 0 ≡ c
  pub here : (p : ℕ) → p < n → get_or positions (get_or channels p 0) 0 ≡ p
