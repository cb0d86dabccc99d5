-- `first_lost` meets its contract: no round below `low` is lost, and round `high` is.
use Prim.Native.Nat.{◌-◌, ◌≤◌}
use mathlib.Core.Path.{◌≡◌}
use lib.ListN.{length}
use Rattle.game.specs.Game.{block_at}
use Rattle.chains.specs.Lent.{Holds}
use Rattle.runs.specs.Run.{lowest_first, round}
use Rattle.runs.specs.First.{Bisecting}
use Rattle.rows.specs.Grouped.{RetracingOn}
use Rattle.rows.proofs.retrace.first_lost.Given as goal

abbrev pub invariant-loop-low : goal.invariant-loop-low
invariant-loop-low l =
    (l.low ≤ l.high) × (l.high ≤ l.log.made)
    × ((t : RetracingOn l.board l.clear l.log l.initial.block) → Bisecting t.game l.low l.high × Holds l.n l.block (block_at (round lowest_first l.high t.game)))
    × (length l.block ≡ length l.initial.block) × (length l.earlier ≡ 512) × (l.log.made ≡ 0 → l.block ≡ l.initial.block)

abbrev pub decreases-loop-low : goal.decreases-loop-low
decreases-loop-low l = l.high - l.low
