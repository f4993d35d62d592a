use Rattle.read_jp2h.proofs.Reading.{read_as, read_none}
use Rattle.read_jp2h.proofs.read_content.Goals as goal

pub returns-in-IHDR : goal.returns-in-IHDR
returns-in-IHDR c = read_as _ _ _ _ c.in-IHDR.is c.fill_ihdr.ensures

pub returns-in-BPCC : goal.returns-in-BPCC
returns-in-BPCC c = read_as _ _ _ _ c.in-BPCC.is c.fill_bpcc.ensures

pub returns-in-COLR : goal.returns-in-COLR
returns-in-COLR c = read_as _ _ _ _ c.in-COLR.is c.fill_colr.ensures

pub returns-in-PCLR : goal.returns-in-PCLR
returns-in-PCLR c = read_as _ _ _ _ c.in-PCLR.is c.fill_pclr.ensures

pub returns-in-CMAP : goal.returns-in-CMAP
returns-in-CMAP c = read_as _ _ _ _ c.in-CMAP.is c.fill_cmap.ensures

pub returns-in-CDEF : goal.returns-in-CDEF
returns-in-CDEF c = read_as _ _ _ _ c.in-CDEF.is c.fill_cdef.ensures

pub returns-in_default : goal.returns-in_default
returns-in_default c = let a = c.args in let d = c.in_default in read_none a.at.place a.at.start a.c.now a.k.now a.ty (d.not-IHDR, d.not-COLR, d.not-PCLR, d.not-CMAP, d.not-CDEF, d.not-BPCC) (rw c.unknown-k.ensures)
