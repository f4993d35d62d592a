use native.Mathlib.Omega.{arith}
use mathlib.Core.Path.{◌∙◌}
use lib.ListN.{length}
use Rattle.box_refusal.specs.Told.{told}
use Rattle.write_rules.specs.Request.{asked}
use Rattle.trial_round_trip.proofs.Backs.{count-is, part-is, comes_back}
use Rattle.trial_round_trip.proofs.write_and_read.Goals as goal

pub returns : goal.returns
returns c =
    let a = c.args in
    let w = c.write_boxes-written in
    let n = c.unwrap_or-n.ensures ∙ count-is w.result in
    let is = part-is (told w.result) _ n c.part.ensures c.read_file-reading.ensures.value in
    record {
      written_value = w.ensures.value;
      d_after = w.ensures.d_after;
      reading_value = is;
      comes_back = comes_back (asked a.r.now (length a.d.now)) a.d.now (omega (arith, n)) w.ensures.value w.ensures.d_after is;
    }
