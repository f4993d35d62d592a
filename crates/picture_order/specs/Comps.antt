-- Component records, and their numbers.
use Rattle.std.specs.Prelude.{ℕ, List, [], ◌∷◌, ◌++◌}
use Rattle.picture_order.specs.declared.lent.Comp.{Comp}

-- a record of zeros, which `get_or` gives past the end
abbrev pub no_record : Comp
no_record = record { dx = 0; dy = 0; w = 0; h = 0; x0 = 0; y0 = 0; prec = 0; bpp = 0; sgnd = 0; resno_decoded = 0; factor = 0; «data» = 0; alpha = 0 }

-- a record's thirteen numbers
abbrev pub numbers_of : Comp → List ℕ
numbers_of c =
    c.dx ∷ c.dy ∷ c.w ∷ c.h ∷ c.x0 ∷ c.y0 ∷ c.prec ∷ c.bpp ∷ c.sgnd ∷ c.resno_decoded ∷ c.factor ∷ c.«data» ∷ c.alpha ∷ []

-- the numbers of the records, one after the other: the list of picture_order
unfoldable pub numbered : List Comp → List ℕ
numbered [] = []
numbered (c ∷ cs) = numbers_of c ++ numbered cs
