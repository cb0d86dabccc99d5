-- What the log of a run says.
use Rattle.std.specs.Prelude.{ℕ}
use Rattle.game.specs.declared.Game.{Game}
use Rattle.chains.specs.Grouped.{SameRow}
use Rattle.runs.specs.declared.log.SplitLog.{SplitLog}
use Rattle.runs.specs.declared.log.SplitLogMut.{SplitLogMut}
use Rattle.runs.specs.Log.{Log}

-- the splits that are written down are those of the game's run
abbrev pub Logged : Game → ℕ → SplitLog → Type 0
Logged g n log = Log g n log.made log.parents.now log.names.now

-- they are still the rows that were lent, and as long
abbrev pub SameLog : SplitLogMut → SplitLogMut → Type 0
SameLog old new = SameRow old.parents new.parents × SameRow old.names new.names
