use Rattle.std.proofs.Common.{sym, ap, ◌∙◌, arith}
use Rattle.box_number.proofs.Indices.{lowest-none}
use Rattle.box_number.proofs.Rows.{row}
use Rattle.box_refusal.specs.Told.{accepted, refused}
use Rattle.write_rules.specs.declared.Fields.{Fields}
use Rattle.write_rules.specs.Request.{asked}
use Rattle.write_rules.specs.Setup.{ill, set_up}
use Rattle.write_setup.proofs.Ranges.{first-some, first-none}
use Rattle.write_setup.proofs.Wraps.{wraps_is}
use Rattle.write_setup.proofs.Settings.{ready}
use Rattle.write_setup.proofs.opj_jp2_setup_encoder.Goals as goal

pub returns-in-Some : goal.returns-in-Some
unfolding set_up
returns-in-Some c = let a = c.args.r.now in
    let s = first-some (ill a.comps.now) a.count c.in-Some.wrong (sym c.in-Some.is ∙ c.first_ill.ensures) in
    row 2 _ (omega arith) (ap (refused 32) s.0)

pub bits-requires : goal.bits-requires
bits-requires c = let a = c.args.r.now in
    let t = ill a.comps.now in
    lowest-none t a.count (first-none t a.count (sym c.in_default.is ∙ c.first_ill.ensures)) 0 (omega arith)

pub returns : goal.returns
unfolding set_up
returns c = let a = c.args.r.now in
    let none = first-none (ill a.comps.now) a.count (sym c.in_default.is ∙ c.first_ill.ensures) in
    row 3 _ (omega arith)
    (ap (λ (s : Fields). accepted s) (ready (asked a 0) (wraps_is a.area.y1 a.area.y0 (omega arith)) (wraps_is a.area.x1 a.area.x0 (omega arith)) c.bits.ensures c.method-meth.ensures
    c.enumerated-enumcs.ensures c.colour_count-colours.ensures c.definition_count.ensures))
