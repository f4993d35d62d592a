-- For private functions only: what is put to a lent list of bytes, behind what was put before.
use Rattle.std.specs.Prelude.{ℕ, ◌+◌, ◌≤◌, ◌≡◌, List, length}
use Rattle.box_number.specs.Number.{placed}
use Rattle.write_boxes.specs.declared.Writer.{Writer}

-- there are n bytes from the place on
abbrev pub HasRoom : Writer → ℕ → Type 0
HasRoom o n = o.at + n ≤ length o.d.now

-- xs, which are n bytes, were put to the place of o, and the place of p is behind them. The list is the same loan, and as long as before.
pub record Puts (o p : Writer) (xs : List ℕ) (n : ℕ) : Type 0 where
  pub loan : p.d.ghost_name ≡ o.d.ghost_name
  pub long : length p.d.now ≡ length o.d.now
  pub place : p.at ≡ o.at + n
  pub bytes : p.d.now ≡ placed o.d.now o.at xs
