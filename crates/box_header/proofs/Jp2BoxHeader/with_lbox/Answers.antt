use native.Mathlib.Omega.{arith}
use mathlib.Core.Path.{refl, sym}
use Rattle.box_header.specs.Box.{header}
use Rattle.box_number.proofs.Rows.{row}
use Rattle.box_header.proofs.Headers.{header-least, header_8, header_16, box-all, box-long, box-plain, header_made}
use Rattle.box_header.proofs.Jp2BoxHeader.with_lbox.Goals as goal

pub returns-then-c-gt-LARGEST : goal.returns-then-c-gt-LARGEST
unfolding header
returns-then-c-gt-LARGEST c = let s = c.args.c.now in row 2 _ (omega (arith, header_8 s (omega arith), box-all s (omega arith))) refl

pub returns-then-stated-eq0 : goal.returns-then-stated-eq0
unfolding header
returns-then-stated-eq0 c = let s = c.args.c.now in
    let hl = header_8 s (omega arith) in
    let bl = box-all s (omega arith) in
    row 3 _ (omega arith) (header_made s (sym bl) c.read_u32.ensures c.from-ty.ensures (sym hl))

pub returns-then-c-lt16 : goal.returns-then-c-lt16
unfolding header
returns-then-c-lt16 c = let s = c.args.c.now in row 1 _ (omega (arith, header_16 s (omega arith))) refl

pub returns-then-high-ne0 : goal.returns-then-high-ne0
unfolding header
returns-then-high-ne0 c = let s = c.args.c.now in row 2 _ (omega (arith, header_16 s (omega arith), box-long s (omega arith))) refl

pub returns-then-stated-eq1 : goal.returns-then-stated-eq1
unfolding header
returns-then-stated-eq1 c = let s = c.args.c.now in
    let hl = header_16 s (omega arith) in
    let bl = box-long s (omega arith) in
    row 3 _ (omega arith) (header_made s (omega arith) c.read_u32.ensures c.from-ty.ensures (sym hl))

pub returns : goal.returns
unfolding header
returns c = let s = c.args.c.now in
    let hl = header_8 s (omega arith) in
    let bl = box-plain s (omega arith) (omega arith) in
    row 3 _ (omega arith) (header_made s (omega arith) c.read_u32.ensures c.from-ty.ensures (sym hl))
