use native.Mathlib.Omega.{arith}
use Prim.Native.Nat.{◌%◌, ◌/◌}
use Rattle.box_number.specs.Table.{◌<?◌}
use Rattle.box_number.proofs.Indices.{decide}
use Rattle.box_number.proofs.Rows.{row}
use Rattle.read_palette.specs.Pclr.{entry_bytes}
use Rattle.read_palette.proofs.entry_bytes.Goals as goal

pub returns : goal.returns
unfolding entry_bytes
returns c = decide (c.args.b % 128 / 8 <? 3) (λ h. row 0 _ (omega arith) (omega arith)) (λ h. row 1 _ (omega arith) (omega arith))
