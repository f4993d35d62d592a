use Rattle.read_jp2h.proofs.find_next.Goals as goal

pub returns-then-not-lone : goal.returns-then-not-lone
returns-then-not-lone c = rw c.if-not-lone.true c.find_child.ensures

pub returns : goal.returns
returns c = rw c.if-not-lone.false
