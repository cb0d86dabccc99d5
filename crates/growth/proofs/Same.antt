-- A growth whose rows are still those that were lent.
use Rattle.chains.proofs.Same.{same_row, still-row}
use Rattle.growth.specs.Grouped.{SameGrowth}
use Rattle.growth.specs.declared.Growth.{Growth}

pub same_growth : (a : Growth) → SameGrowth a a
same_growth a = (same_row a.have, same_row a.hit, same_row a.queue)

pub still-growth : (a b c : Growth) → SameGrowth a b → SameGrowth b c → SameGrowth a c
still-growth a b c p q = (still-row p.0 q.0, still-row p.1 q.1, still-row p.2 q.2)
