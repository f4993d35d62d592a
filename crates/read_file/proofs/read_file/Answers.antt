use mathlib.Core.Path.{ap, ◌∙◌}
use Rattle.read_record.specs.declared.Jp2.{Jp2}
use Rattle.read_record.specs.Record.{blank}
use Rattle.read_rules.specs.File.{walk}
use Rattle.read_rules.proofs.Cuts.{whatever_was_lost}
use Rattle.read_file.proofs.read_file.Goals as goal

pub returns : goal.returns
returns c = let s = c.args.s.now in
    let e = c.opj_jp2_read_header_procedure.ensures.exact ∙ ap (λ (j : Jp2). walk s j) c.opj_jp2_create.ensures in
    record { value = e; whatever_was_lost = whatever_was_lost s blank _ e }
