use native.Mathlib.Omega.{arith}
use mathlib.Core.Path.{refl, ap, ◌∙◌}
use Rattle.box_number.proofs.Rows.{row}
use Rattle.box_kind.specs.Kind.{tag}
use Rattle.read_record.proofs.Told.{passed_on}
use Rattle.read_rules.specs.File.{outer}
use Rattle.read_file.specs.Private.Turn.{box_at}
use Rattle.read_file.proofs.Turns.{outer-header, outer-other}
use Rattle.read_file.proofs.read_outer.Goals as goal

pub returns-in_ok-k-in-JP : goal.returns-in_ok-k-in-JP
unfolding outer
returns-in_ok-k-in-JP c = row 0 _ (ap tag c.in-JP.is) c.in_ok-k-in-JP.ensures

pub returns-in_err-k-in-JP : goal.returns-in_err-k-in-JP
unfolding outer
returns-in_err-k-in-JP c = passed_on _ _ _ c.from_residual.ensures.1 (row 0 _ (ap tag c.in-JP.is) c.in_err-k-in-JP.ensures)

pub returns-in_ok-k-in-FTYP : goal.returns-in_ok-k-in-FTYP
unfolding outer
returns-in_ok-k-in-FTYP c = let n = ap tag c.in-FTYP.is in row 1 _ (omega arith) c.in_ok-k-in-FTYP.ensures

pub returns-in_err-k-in-FTYP : goal.returns-in_err-k-in-FTYP
unfolding outer
returns-in_err-k-in-FTYP c = let n = ap tag c.in-FTYP.is in passed_on _ _ _ c.from_residual-in_err-k-in-FTYP.ensures.1 (row 1 _ (omega arith) c.in_err-k-in-FTYP.ensures)

pub returns-in_ok-read_header-in-JP2H : goal.returns-in_ok-read_header-in-JP2H
returns-in_ok-read_header-in-JP2H c = let a = c.args in c.in_ok-read_header-in-JP2H.ensures ∙ outer-header a.ty a.at.place a.at.start a.c.now a.k.now c.in-JP2H.is c.requires

pub returns-in_err-read_header-in-JP2H : goal.returns-in_err-read_header-in-JP2H
returns-in_err-read_header-in-JP2H c = let a = c.args in passed_on _ _ _ c.from_residual-in_err-read_header-in-JP2H.ensures.1 (c.in_err-read_header-in-JP2H.ensures ∙ outer-header a.ty a.at.place a.at.start a.c.now a.k.now c.in-JP2H.is c.requires)

pub returns-in_ok-read_other-in_default : goal.returns-in_ok-read_other-in_default
returns-in_ok-read_other-in_default c =
    let a = c.args in
    let d = c.in_default in
    c.in_ok-read_other-in_default.ensures (box_at a.ty a.at.place a.at.start) refl ∙ outer-other a.ty a.at.place a.at.start a.c.now a.k.now (d.not-JP, d.not-FTYP, d.not-JP2H, d.not-IHDR, d.not-COLR, d.not-PCLR, d.not-CMAP, d.not-CDEF, d.not-BPCC)

pub returns-in_err-read_other-in_default : goal.returns-in_err-read_other-in_default
returns-in_err-read_other-in_default c =
    let a = c.args in
    let d = c.in_default in
    passed_on _ _ _ c.from_residual-in_err-read_other-in_default.ensures.1 (c.in_err-read_other-in_default.ensures (box_at a.ty a.at.place a.at.start) refl ∙ outer-other a.ty a.at.place a.at.start a.c.now a.k.now (d.not-JP, d.not-FTYP, d.not-JP2H, d.not-IHDR, d.not-COLR, d.not-PCLR, d.not-CMAP, d.not-CDEF, d.not-BPCC))
