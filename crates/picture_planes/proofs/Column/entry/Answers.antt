use Rattle.std.proofs.Common.{◌≡◌, ◌+◌, ◌*◌, ap, ◌∙◌, arith, rules}
use Rattle.std.proofs.lemmas.Int.{to_z-of_z}
use mir.Syntax.{w32}
use Rattle.box_number.specs.Number.{number, least}
use Rattle.box_number.proofs.Numbers.{least-low}
use Rattle.picture_rules.specs.Samples.{displayed}
use Rattle.picture_planes.proofs.Columns.{cast_shown}
use Rattle.picture_planes.proofs.Column.entry.Goals as goal

pub returns : goal.returns
returns c =
    let k = c.args.self in
    let low : least k.wide 4 ≡ k.wide = least-low k.wide 4 (omega arith) in
    let e : c.opj_read_bytes-e.result ≡ number c.args.s.now (k.place + c.args.j * k.step) k.wide = rw low at c.opj_read_bytes-e.ensures in
    to_z-of_z w32 _ (search rules) ∙ c.cast_signed.ensures ∙ cast_shown c.opj_read_bytes-e.result c.opj_read_bytes-e.type_inv ∙ ap displayed e
