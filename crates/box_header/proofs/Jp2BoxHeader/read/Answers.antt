use native.Mathlib.Omega.{arith}
use mathlib.Core.Path.{refl}
use Rattle.box_header.specs.Box.{child_header}
use Rattle.box_number.proofs.Rows.{row}
use Rattle.box_header.proofs.Jp2BoxHeader.read.Goals as goal

pub returns-then-c-lt8 : goal.returns-then-c-lt8
unfolding child_header
returns-then-c-lt8 c = row 0 _ (omega arith) c.from_stream.ensures

pub returns-then-lbox-eq0 : goal.returns-then-lbox-eq0
unfolding child_header
returns-then-lbox-eq0 c = row 1 _ (omega arith) refl

pub returns : goal.returns
unfolding child_header
returns c = row 2 _ (omega arith) c.with_lbox.ensures
