-- One list of records: a record is made of the first thirteen numbers, and those after it of the rest.
-- Assumes nothing.
use Prim.Native.Nat.{ℕ}
use mathlib.Core.Path.{◌≡◌, refl, ap}
use mathlib.Core.List.{List, [], ◌∷◌}
use lib.ListN.{get_or, drop, length}
use native.Mathlib.Omega.{arith}
use Rattle.picture_order.specs.Comps.{numbered}
use Rattle.picture_order.specs.Exact.{OneList}
use Rattle.picture_order.specs.declared.lent.Comp.{Comp}

-- the record at the front of a list of numbers
abbrev front : List ℕ → Comp
front l = record {
  dx = get_or l 0 0;
  dy = get_or l 1 0;
  w = get_or l 2 0;
  h = get_or l 3 0;
  x0 = get_or l 4 0;
  y0 = get_or l 5 0;
  prec = get_or l 6 0;
  bpp = get_or l 7 0;
  sgnd = get_or l 8 0;
  resno_decoded = get_or l 9 0;
  factor = get_or l 10 0;
  «data» = get_or l 11 0;
  alpha = get_or l 12 0;
}

pub one_list : OneList
unfolding numbered
one_list [] [] e = refl
one_list [] (d ∷ ds) e = absurd (omega (arith, ap length e))
one_list (c ∷ cs) [] e = absurd (omega (arith, ap length e))
one_list (c ∷ cs) (d ∷ ds) e =
    let h : c ≡ d = ap front e in
    let t : cs ≡ ds = one_list cs ds (ap (drop 13) e) in
    cc
