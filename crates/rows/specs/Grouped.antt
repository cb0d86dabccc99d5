-- What the rows that travel together say of a run and its rounds.
use Rattle.std.specs.Prelude.{ℕ, Bool, List}
use Rattle.game.specs.declared.Game.{Game}
use Rattle.chains.specs.declared.lent.Board.{Board}
use Rattle.chains.specs.declared.lent.Moves.{Moves}
use Rattle.chains.specs.declared.lent.Members.{Members}
use Rattle.chains.specs.declared.lent.MembersMut.{MembersMut}
use Rattle.growth.specs.declared.Growth.{Growth}
use Rattle.runs.specs.declared.log.SplitLog.{SplitLog}
use Rattle.runs.specs.declared.log.SplitLogMut.{SplitLogMut}
use Rattle.rows.specs.RoundRows.{Present, Lowered, Underway, Retracing, Begun, Played, Ending, Finishing, Final}

-- the present blocks of a game, and what the board says of it but for the side that hunts, the turns and where each state's moves begin
abbrev pub PresentBy : Game → ℕ → List ℕ → List ℕ → Board → List ℕ → Type 0
PresentBy g side turn first board block =
    let moves = board.moves in
    Present g side moves.states moves.moves board.objective turn board.starts.now moves.from.now moves.to.now moves.last.now moves.before.now moves.need.now first board.prey.now block

-- the present blocks of a game, and all that the board says of it
abbrev pub PresentOn : Game → Board → List ℕ → Type 0
PresentOn g board = PresentBy g board.side board.turn.now board.first.now board

-- the members of the present blocks, and the set that the hunting side surely brings about
abbrev pub LoweredOn : Game → Moves → List ℕ → MembersMut → Growth → List ℕ → Type 0
LoweredOn g moves block members growth lower =
    Lowered g moves.states moves.moves moves.from.now moves.to.now moves.need.now block members.last.now members.before.now members.size.now growth.have.now growth.hit.now lower growth.queue.now growth.tail

-- a round that is under way
abbrev pub UnderwayOn : Moves → List ℕ → MembersMut → Growth → List ℕ → Type 0
UnderwayOn moves block members growth lower =
    Underway moves.states moves.moves moves.from.now moves.to.now moves.last.now moves.before.now moves.need.now block members.last.now members.before.now members.size.now growth.have.now growth.hit.now lower growth.queue.now growth.tail

-- the same, of rows that are lent to be read
abbrev pub UnderwayBy : Moves → List ℕ → Members → List ℕ → List ℕ → List ℕ → List ℕ → ℕ → Type 0
UnderwayBy moves block members have hit lower queue tail =
    Underway moves.states moves.moves moves.from.now moves.to.now moves.last.now moves.before.now moves.need.now block members.last.now members.before.now members.size.now have hit lower queue tail

-- a run whose round after the splits of the log is lost for the hunting side, and none of the first `clear` rounds is
abbrev pub RetracingOn : Board → ℕ → SplitLog → List ℕ → Type 0
RetracingOn board clear log block =
    let moves = board.moves in
    Retracing moves.states moves.moves board.objective clear log.made board.starts.now moves.from.now moves.to.now moves.last.now moves.before.now moves.need.now board.prey.now log.parents.now log.names.now block

-- a run begins: its first round is worked out
abbrev pub BegunOn : Board → List ℕ → MembersMut → Growth → List ℕ → Type 0
BegunOn board block members growth lower =
    let moves = board.moves in
    Begun board.side moves.states moves.moves board.objective board.turn.now board.starts.now moves.from.now moves.to.now moves.last.now moves.before.now moves.need.now board.first.now board.prey.now block members.last.now members.before.now members.size.now growth.have.now growth.hit.now lower growth.queue.now growth.tail

-- the round after the splits of the log of a run of g is worked out
abbrev pub PlayedOn : Game → Board → List ℕ → MembersMut → Growth → List ℕ → SplitLogMut → ℕ → Type 0
PlayedOn g board block members growth lower log clear =
    let moves = board.moves in
    Played g board.side moves.states moves.moves board.objective board.turn.now board.starts.now moves.from.now moves.to.now moves.last.now moves.before.now moves.need.now board.first.now board.prey.now block members.last.now members.before.now members.size.now growth.have.now growth.hit.now lower growth.queue.now log.parents.now log.names.now log.made clear growth.tail

-- a run that has stopped
abbrev pub EndingOn : Board → ℕ → ℕ → Bool → SplitLog → List ℕ → Type 0
EndingOn board allowance clear lost log block =
    let moves = board.moves in
    Ending moves.states moves.moves board.objective allowance clear log.made lost board.starts.now moves.from.now moves.to.now moves.last.now moves.before.now moves.need.now board.prey.now log.parents.now log.names.now block

-- the last game of a run; where no split was made its lower row is there already
abbrev pub FinishingOn : Board → ℕ → List ℕ → MembersMut → Growth → List ℕ → Type 0
FinishingOn board made block members growth lower =
    let moves = board.moves in
    Finishing moves.states moves.moves made growth.tail moves.from.now moves.to.now moves.last.now moves.before.now moves.need.now board.prey.now block members.last.now members.before.now members.size.now growth.have.now growth.hit.now lower growth.queue.now

-- how a run of g came out
abbrev pub FinalOn : Game → Board → ℕ → List ℕ → ℕ → List ℕ → List ℕ → Type 0
FinalOn g board allowance block splits lower upper =
    let moves = board.moves in
    Final g board.side moves.states moves.moves board.objective allowance board.turn.now board.starts.now moves.from.now moves.to.now moves.last.now moves.before.now moves.need.now board.first.now board.prey.now block splits lower upper
