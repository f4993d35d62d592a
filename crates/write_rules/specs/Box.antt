-- I.4: a box as it is written, with LBox (4 bytes), TBox (4) and its content.
use Rattle.std.specs.Prelude.{ℕ, zero, suc, ◌+◌, List, [], ◌++◌, length}
use Rattle.box_number.specs.Number.{bytes}
use Rattle.box_kind.specs.Kind.{number_of}
use Rattle.box_kind.specs.declared.Jp2BoxType.{Jp2BoxType}

-- the header of a box whose content has n bytes
unfoldable pub box_header : Jp2BoxType → ℕ → List ℕ
box_header kind n = bytes 4 (8 + n) ++ bytes 4 (number_of kind)

unfoldable pub box : Jp2BoxType → List ℕ → List ℕ
box kind content = box_header kind (length content) ++ content

-- the pieces 0, 1, .. up to the one before n, one after the other
unfoldable pub series : (ℕ → List ℕ) → ℕ → List ℕ
series piece zero = []
series piece (suc n) = series piece n ++ piece n
