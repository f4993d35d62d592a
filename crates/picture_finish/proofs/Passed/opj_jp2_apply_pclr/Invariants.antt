use Prim.Native.Nat.{◌+◌}
use mathlib.Core.Path.{◌≡◌}
use Rattle.read_palette.specs.Pclr.{row_bytes}
use Rattle.picture_finish.proofs.Packs.{Packed}
use Rattle.picture_finish.proofs.Passed.opj_jp2_apply_pclr.Given as goal

abbrev pub invariant-loop-c : goal.invariant-loop-c
invariant-loop-c l = record { place : l.off ≡ l.columns + row_bytes l.s 0 l.c; packed : Packed l.self.f.now l.self.m l.self.lent.now l.initial.records l.initial.planes l.records l.planes l.c l.at }
