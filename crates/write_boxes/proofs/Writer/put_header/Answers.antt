use mathlib.Core.Path.{refl, ◌∙◌}
use Rattle.write_rules.proofs.Lengths.{length-header}
use Rattle.write_boxes.proofs.Pieces.{header-placed, placed-puts}
use Rattle.write_boxes.proofs.Writer.put_header.Goals as goal

pub returns : goal.returns
returns c = let o = c.args.self.now in
    placed-puts refl refl (c.write.ensures.1 ∙ header-placed o.d.now o.at c.args.kind c.args.content c.new-header.ensures c.requires.1) (length-header c.args.kind c.args.content) c.requires.1
