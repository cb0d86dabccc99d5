-- `play_rounds` meets its contract: before each round the rows are those of the rounds played.
use Prim.Native.Nat.{◌-◌, ◌≤◌}
use mathlib.Core.Path.{◌≡◌}
use lib.ListN.{length}
use Rattle.chains.specs.Grouped.{SameMembers}
use Rattle.growth.specs.Grouped.{SameGrowth}
use Rattle.runs.specs.Grouped.{SameLog}
use Rattle.rows.specs.Grouped.{BegunOn, PlayedOn}
use Rattle.play.proofs.play_rounds.Given as goal

abbrev pub invariant-rounds : goal.invariant-rounds
invariant-rounds l =
    ((v : BegunOn l.board l.initial.block l.initial.members l.initial.growth l.initial.lower)
    → PlayedOn v.game l.board l.block l.members l.growth l.lower l.log l.clear × (l.log.made ≡ 0 → l.lower ≡ l.initial.lower))
    × (l.log.made ≤ l.allowance) × (length l.block ≡ length l.initial.block) × (length l.lower ≡ length l.initial.lower)
    × SameMembers l.initial.members l.members × SameGrowth l.initial.growth l.growth × SameLog l.initial.log l.log

abbrev pub decreases-rounds : goal.decreases-rounds
decreases-rounds l = l.allowance - l.log.made
