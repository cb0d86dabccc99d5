-- `join_block` meets its contract: the members from the present one on have joined.
use mathlib.Core.Path.{◌≡◌}
use lib.ListN.{length}
use Rattle.growth.proofs.Queue.{Joining}
use Rattle.growth.proofs.enter.join_block.Given as goal

abbrev pub invariant-loop-at : goal.invariant-loop-at
invariant-loop-at l =
    Joining l.n l.block l.b l.number l.initial.row l.initial.queue l.tail l.row l.queue l.end l.at × (length l.row ≡ length l.initial.row) × (length l.queue ≡ length l.initial.queue)

abbrev pub decreases-loop-at : goal.decreases-loop-at
decreases-loop-at l = l.at
