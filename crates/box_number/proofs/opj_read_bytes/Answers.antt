use Rattle.box_number.specs.Number.{number}
use mathlib.Core.Path.{refl, sym}
use native.Mathlib.Omega.{arith}
use Rattle.box_number.proofs.Numbers.{number_suc, number_past, number_narrow, number-wide}
use Rattle.box_number.proofs.opj_read_bytes.Goals as goal

pub returns-then-s-at : goal.returns-then-s-at
returns-then-s-at c = sym (number_past _ _ _ c.if-s-at.true)

pub returns-in-0 : goal.returns-in-0
unfolding number
returns-in-0 c = let a = c.args in number_narrow a.s.now a.at a.nb 0 (omega arith) (omega arith) refl

pub returns-in-1 : goal.returns-in-1
returns-in-1 c = let a = c.args in number_narrow a.s.now a.at a.nb 1 (omega arith) (omega arith) c.read_u8.ensures

pub returns-in-2 : goal.returns-in-2
returns-in-2 c = let a = c.args in number_narrow a.s.now a.at a.nb 2 (omega arith) (omega arith) c.read_u16.ensures

pub returns-in-3 : goal.returns-in-3
returns-in-3 c = let a = c.args in number_narrow a.s.now a.at a.nb 3 (omega arith) (omega arith) (omega (arith, number_suc a.s.now a.at 2))

pub returns-in_default : goal.returns-in_default
returns-in_default c = let a = c.args in number-wide a.s.now a.at a.nb (omega arith) c.read_u32.ensures
