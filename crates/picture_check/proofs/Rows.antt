-- The bytes of a palette's rows, read from the palette's place on.
-- Assumes nothing.
use Prim.Native.Nat.{ℕ, ◌*◌}
use mathlib.Core.Path.{◌≡◌, ap, ◌∙◌}
use mathlib.Core.List.{List}
use lib.ListN.{length}
use Rattle.box_number.specs.Number.{part}
use Rattle.read_palette.specs.Pclr.{row_bytes}
use Rattle.picture_rules.proofs.Rests.{rest-row}

-- as often as the palette has entries
pub rows-file : (f : List ℕ) (place n entries : ℕ) {rest : List ℕ} {row : ℕ} → rest ≡ part f place (length f) → row ≡ row_bytes rest 0 n → entries * row ≡ entries * row_bytes f place n
rows-file f place n entries {rest} {row} d e = ap (λ (x : ℕ). entries * x) (e ∙ ap (λ (s : List ℕ). row_bytes s 0 n) d ∙ rest-row f place n)
