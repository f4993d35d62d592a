use Rattle.std.proofs.Common.{[], ◌∷◌}
use Rattle.box_kind.specs.declared.Jp2BoxType.TheVariants.{JP}
use Rattle.read_signature.specs.Signature.{signature_content}
use Rattle.write_boxes.proofs.Numbers.{box-numbers}
use Rattle.write_boxes.proofs.opj_jp2_write_jp.Goals as goal

pub returns : goal.returns
returns c = box-numbers JP ((4, signature_content) ∷ []) c.put_header.ensures c.put.ensures c.requires
