-- `walk` meets its contract: the moves from the present one on are counted.
use Prim.Native.Nat.{◌<◌}
use Rattle.growth.specs.Stamp.{pass_at}
use Rattle.growth.specs.Net.{net}
use Rattle.growth.specs.Queue.{Walking}
use Rattle.growth.proofs.Walking.{Turn}
use Rattle.growth.proofs.passes.walk.Given as goal

abbrev pub invariant-loop-at : goal.invariant-loop-at
invariant-loop-at l =
    (Walking (net l.moves.states l.moves.moves l.whole l.moves.from.now l.moves.to.now l.moves.need.now l.block l.members.size.now) (pass_at l.initial.row) l.number l.q l.initial.tail l.initial.queue l.c l.have l.hit l.row l.queue l.tail l.at
    × (0 < l.at → Turn (net l.moves.states l.moves.moves l.whole l.moves.from.now l.moves.to.now l.moves.need.now l.block l.members.size.now) l.moves.before.now l.have l.hit l.at))

abbrev pub decreases-loop-at : goal.decreases-loop-at
decreases-loop-at l = l.at
