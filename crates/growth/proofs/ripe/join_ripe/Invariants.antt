-- `join_ripe` meets its contract: the ripe blocks with the numbers passed have joined.
use Prim.Native.Nat.{◌≤◌}
use Rattle.growth.specs.Net.{ripe_by}
use Rattle.growth.specs.Queue.{Joined}
use Rattle.growth.proofs.Ripening.{ripe_below}
use Rattle.growth.proofs.ripe.join_ripe.Given as goal

abbrev pub invariant-loop-b : goal.invariant-loop-b
invariant-loop-b l =
    (l.b ≤ l.n) × Joined l.n (ripe_below (ripe_by l.whole l.size l.hit) l.block l.b) 2 l.initial.row l.initial.queue l.initial.tail l.row l.queue l.tail
