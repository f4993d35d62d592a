use Rattle.std.proofs.Common.{refl, ap, ◌∙◌, arith}
use native.Mathlib.Nat.{sub-zero}
use Rattle.box_number.specs.Number.{part}
use Rattle.box_number.proofs.Rows.{row}
use Rattle.box_number.proofs.Numbers.{number-byte}
use Rattle.text.proofs.Puts.{puts-same}
use Rattle.jp2info.specs.Quote.{shown_byte, first_character}
use Rattle.jp2info.proofs.quote.front.Goals as goal

pub returns-then-n-gt1 : goal.returns-then-n-gt1
unfolding first_character part
returns-then-n-gt1 c = puts-same _ _ (c.part.ensures ∙ rw sub-zero (row 0 _ (omega arith) refl)) c.text.ensures

pub returns-else-n-gt1 : goal.returns-else-n-gt1
unfolding first_character
returns-else-n-gt1 c =
    puts-same _ _ (row 1 _ (omega arith) (ap (shown_byte _) (c.read_u8.ensures ∙ number-byte c.args.s.now 0))) c.shown.ensures
