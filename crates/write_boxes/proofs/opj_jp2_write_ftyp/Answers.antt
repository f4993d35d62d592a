use Rattle.std.proofs.Common.{[], ◌∷◌}
use Rattle.box_kind.specs.declared.Jp2BoxType.TheVariants.{FTYP}
use Rattle.write_rules.specs.FileType.{BR, MinV, CL}
use Rattle.write_boxes.proofs.Numbers.{box-numbers}
use Rattle.write_boxes.proofs.opj_jp2_write_ftyp.Goals as goal

pub returns : goal.returns
returns c = box-numbers FTYP ((4, BR) ∷ (4, MinV) ∷ (4, CL) ∷ []) c.put_header.ensures c.put.ensures c.requires
