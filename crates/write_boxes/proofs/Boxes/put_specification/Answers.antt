use native.Mathlib.Omega.{arith}
use mathlib.Core.Path.{sym, ap, ◌∙◌}
use lib.ListN.{length}
use Rattle.box_number.proofs.Bytes.{length-bytes}
use Rattle.write_boxes.proofs.Lengths.{specification-enumerated}
use Rattle.write_boxes.proofs.Pieces.{renamed}
use Rattle.write_boxes.proofs.Boxes.put_specification.Goals as goal

pub put-requires-clause-room : goal.put-requires-clause-room
put-requires-clause-room c = let a = c.args.self.now in omega (arith, c.requires, ap length (specification-enumerated a.fields a.profile.now (omega arith)), length-bytes 4 a.fields.enumcs)

pub returns-then-self-eq-ENUMERATED : goal.returns-then-self-eq-ENUMERATED
returns-then-self-eq-ENUMERATED c = let a = c.args.self.now in
    let is = specification-enumerated a.fields a.profile.now (omega arith) in
    renamed is (sym (length-bytes 4 a.fields.enumcs) ∙ ap length is) c.put.ensures
