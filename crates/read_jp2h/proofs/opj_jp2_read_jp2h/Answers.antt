use mathlib.Core.Path.{◌∙◌}
use Rattle.read_jp2h.proofs.Ways.{box-alone}
use Rattle.read_jp2h.proofs.opj_jp2_read_jp2h.Goals as goal

pub returns : goal.returns
returns c = let a = c.args in c.read_header_box.ensures ∙ box-alone a.at.place a.at.start a.c.now a.j
