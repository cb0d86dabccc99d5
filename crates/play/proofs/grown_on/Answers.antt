-- `grown_on` meets its contract: the rows that are read hold what the lent ones do.
use Rattle.play.proofs.grown_on.Goals as goal

pub returns : goal.returns
returns c = rw (c.shared.ensures.last, c.shared.ensures.before, c.shared.ensures.size) at c.upper_row.ensures
