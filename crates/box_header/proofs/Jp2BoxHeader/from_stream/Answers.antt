use native.Mathlib.Omega.{arith}
use mathlib.Core.Path.{refl}
use Rattle.box_header.specs.Box.{header}
use Rattle.box_number.proofs.Rows.{row}
use Rattle.box_header.proofs.Headers.{header-least}
use Rattle.box_header.proofs.Jp2BoxHeader.from_stream.Goals as goal

pub returns-then-c-eq0 : goal.returns-then-c-eq0
unfolding header
returns-then-c-eq0 c = row 0 _ (omega arith) refl

pub returns-then-c-lt8 : goal.returns-then-c-lt8
unfolding header
returns-then-c-lt8 c = let s = c.args.c.now in row 1 _ (omega (arith, header-least s)) refl
