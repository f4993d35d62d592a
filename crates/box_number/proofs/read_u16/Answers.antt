use mathlib.Core.Path.{sym}
use native.Mathlib.Omega.{arith}
use Rattle.box_number.proofs.Numbers.{number_suc, number_past}
use Rattle.box_number.proofs.read_u16.Goals as goal

pub returns-then-s-at : goal.returns-then-s-at
returns-then-s-at c = sym (number_past _ _ 2 c.if-s-at.true)

pub returns : goal.returns
returns c = let a = c.args in omega (arith, number_suc a.s.now a.at 1)
