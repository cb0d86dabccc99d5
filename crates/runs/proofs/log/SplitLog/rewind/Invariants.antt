-- `rewind` meets its contract: whichever game the log is of, the row has the blocks of round k.
use Prim.Native.Nat.{ℕ, ◌≤◌}
use Rattle.game.specs.Game.{block_at}
use Rattle.game.specs.declared.Game.{Game}
use Rattle.chains.specs.Lent.{Holds}
use Rattle.runs.specs.Run.{lowest_first, round}
use Rattle.runs.specs.Log.{Log}
use Rattle.runs.proofs.log.SplitLog.rewind.Given as goal

abbrev pub invariant-loop-k : goal.invariant-loop-k
invariant-loop-k l =
    (l.earlier ≤ l.k)
    × (l.k ≤ l.later)
    × ((g : Game) (made : ℕ) → Log g l.n made l.self.parents.now l.self.names.now → l.later ≤ made → Holds l.n l.initial.block (block_at (round lowest_first l.later g)) → Holds l.n l.block (block_at (round lowest_first l.k g)))
