use Rattle.std.proofs.Common.{arith}
use Rattle.std.proofs.lemmas.Bool.Decides.{nat_tests}
use Rattle.box_number.proofs.Numbers.{number-byte}
use Rattle.jp2info.specs.Utf8.{within}
use Rattle.jp2info.proofs.utf8.within.Goals as goal

pub returns : goal.returns
unfolding within
returns c =
    let b = number-byte c.args.s.now c.args.i in
    let e = c.read_u8.ensures in
    let f = c.contains.ensures.value in
    grind (arith, nat_tests)
