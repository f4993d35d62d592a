use Rattle.read_record.proofs.Told.{passed_on}
use Rattle.read_jp2h.proofs.Parts.{put_ihdr, filled, ihdr-fills}
use Rattle.read_jp2h.proofs.fills.fill_ihdr.Goals as goal

pub returns : goal.returns
returns c = let a = c.args in filled put_ihdr a.k.now (ihdr-fills a.at.place a.at.start a.c.now a.k.now) c.in_ok-m.ensures

pub returns-in_err-m : goal.returns-in_err-m
returns-in_err-m c = passed_on _ _ _ c.from_residual.ensures.1 c.in_err-m.ensures
