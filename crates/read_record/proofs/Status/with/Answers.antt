use Rattle.std.proofs.Common.{◌≡◌, ℕ, ◌+◌, refl, sym, ap, ◌∙◌, true, false}
use Rattle.box_number.specs.Table.{◌≠?◌}
use Rattle.box_number.proofs.Rows.{row}
use Rattle.box_number.proofs.Answers.{said}
use Rattle.read_record.specs.Record.{status}
use Rattle.read_record.specs.State.{weight, bit, with_bit}
use Rattle.read_record.proofs.Status.with.Goals.{in-Signature-1, in-FileType-1, in-Header-1, in-Codestream-1}
use Rattle.read_record.proofs.Status.with.Goals as goal

pub returns-after-b : goal.returns-after-b
unfolding with_bit
returns-after-b c =
    let s = c.args.self in
    let b = c.args.b in
    let h = said false (bit (weight b) s.state ≠? 0) (sym c.if-not-has.true ∙ c.has.ensures) in
    let e : c.match-b.s ≡ weight b = elim c.match-b.branch [ in-Signature-1 w ↦ cc | in-FileType-1 w ↦ cc | in-Header-1 w ↦ cc | in-Codestream-1 w ↦ cc ] in
    ap (λ (n : ℕ). status n s.imgstate s.hasjp2h s.hasihdr) (ap (λ (n : ℕ). s.state + n) e ∙ row 0 _ h refl)

pub returns-else-not-has : goal.returns-else-not-has
unfolding with_bit
returns-else-not-has c =
    let s = c.args.self in
    let b = c.args.b in
    let h = said true (bit (weight b) s.state ≠? 0) (sym c.if-not-has.false ∙ c.has.ensures) in
    ap (λ (n : ℕ). status n s.imgstate s.hasjp2h s.hasihdr) (row 1 _ (h, tt) refl)
