use mathlib.Core.Path.{ap, ◌∙◌}
use Rattle.box_number.specs.Number.{part}
use Rattle.box_header.proofs.Headers.{part-content}
use Rattle.read_jp2h.specs.Split.{Box}
use Rattle.read_rules.specs.File.{outer}
use Rattle.read_file.proofs.Turns.{whole-box}
use Rattle.read_file.proofs.read_whole.Goals as goal

pub returns : goal.returns
unfolding part
returns c = let a = c.args in c.read_outer.ensures ∙ ap (λ (x : Box). outer x a.k.now) (whole-box c.requires (part-content a.c.now a.h c.content_length.ensures))
