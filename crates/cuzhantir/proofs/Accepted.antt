-- A list that passed the tests of a reading meets the premise of `record_of`; and a slice of bytes is a file of bytes.
-- Assumes nothing.
use Prim.Native.Nat.{ℕ}
use native.Mathlib.Omega.{arith}
use mir.Syntax.{w8}
use mir.Val.{Fits}
use mathlib.Core.Bool.{false}
use mathlib.Core.List.{List}
use lib.ListN.{get_or}
use Rattle.box_number.proofs.Rows.{Says}
use Rattle.export_rules.specs.FinishReading.{no_reading}
use Rattle.export_rules.specs.TwoSteps.{FileOfBytes}
use Rattle.cuzhantir.specs.Private.Taken.{Taken}

pub taken : (xs : List ℕ) → Says false (no_reading xs) → Taken xs
taken xs f = record { long = f.0; entries = f.1.1.1.0; columns = f.1.1.1.1 }

pub bytes : (f : List ℕ) → ((i : ℕ) → Fits w8 (get_or f i 0)) → FileOfBytes f
bytes f all i = omega (arith, all i)
