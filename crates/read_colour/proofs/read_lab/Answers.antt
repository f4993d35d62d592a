use native.Mathlib.Omega.{arith}
use mathlib.Core.Path.{refl}
use Rattle.box_number.proofs.Rows.{row}
use Rattle.read_colour.specs.Colr.{lab}
use Rattle.read_colour.proofs.read_lab.Goals as goal

pub returns-then-c-eq-ENUMERATED_BYTES : goal.returns-then-c-eq-ENUMERATED_BYTES
unfolding lab
returns-then-c-eq-ENUMERATED_BYTES c = row 0 _ (omega arith) refl

pub returns-then-c-eq-LAB_BYTES : goal.returns-then-c-eq-LAB_BYTES
unfolding lab
returns-then-c-eq-LAB_BYTES c = row 1 _ (omega arith) (cc)

pub returns : goal.returns
unfolding lab
returns c = row 2 _ (omega arith) refl
