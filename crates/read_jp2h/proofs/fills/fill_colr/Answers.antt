use Rattle.read_record.proofs.Told.{passed_on}
use Rattle.read_jp2h.proofs.Parts.{put_colr, filled, stayed, colr-fills, colr-stays}
use Rattle.read_jp2h.proofs.fills.fill_colr.Goals as goal

pub returns-then-k-eq0 : goal.returns-then-k-eq0
returns-then-k-eq0 c = let a = c.args in filled put_colr a.k.now (colr-fills a.at.place a.at.start a.c.now a.k.now) c.in_ok-m.ensures

pub returns-else-k-eq0 : goal.returns-else-k-eq0
returns-else-k-eq0 c = let a = c.args in stayed a.k.now (colr-stays a.at.place a.at.start a.c.now a.k.now) c.if-k-eq0.false c.in_ok-m.ensures

pub returns-in_err-m : goal.returns-in_err-m
returns-in_err-m c = passed_on _ _ _ c.from_residual.ensures.1 c.in_err-m.ensures
