use Rattle.std.proofs.Common.{[], ◌∷◌}
use Rattle.box_kind.specs.declared.Jp2BoxType.TheVariants.{IHDR}
use Rattle.write_rules.specs.Setup.{C, UnkC, IPR}
use Rattle.write_boxes.proofs.Numbers.{box-numbers}
use Rattle.write_boxes.proofs.Boxes.opj_jp2_write_ihdr.Goals as goal

pub returns : goal.returns
returns c = let s = c.args.self.now.fields in
    box-numbers IHDR ((4, s.h) ∷ (4, s.w) ∷ (2, s.numcomps) ∷ (1, s.bpc) ∷ (1, C) ∷ (1, UnkC) ∷ (1, IPR) ∷ []) c.put_header.ensures c.put.ensures c.requires
