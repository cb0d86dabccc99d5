-- What the rows that travel together say when a run is over, and of the plan.
use Rattle.std.specs.Prelude.{ℕ, ◌≡◌, Bool, List, get_or}
use Rattle.game.specs.declared.Game.{Game}
use Rattle.chains.specs.declared.lent.Board.{Board}
use Rattle.solver.specs.Solve.{Rows}
use Rattle.solver.specs.declared.lent.Rows.{Rows as LentRows}
use Rattle.solver.specs.Work.{lowest_good, Walk, Finished, Planning}

-- a run is over, and this is what the board says of its last game, with its blocks and the rows of its last round
abbrev pub FinishedOn : Game → Board → List ℕ → List ℕ → List ℕ → Type 0
FinishedOn g board block low up =
    let moves = board.moves in
    Finished g board.side moves.states moves.moves board.objective board.turn.now board.starts.now moves.from.now moves.to.now block low up

-- what a plan is worked out from
abbrev pub PlanningOn : Game → Board → List ℕ → List ℕ → Type 0
PlanningOn g board low up = let moves = board.moves in Planning g board.side moves.moves board.turn.now moves.from.now moves.to.now low up

-- the rows of a walk over the moves
abbrev pub WalkOn : ℕ → Board → List ℕ → Type 0
WalkOn n board row = let moves = board.moves in Walk n moves.moves board.turn.now moves.from.now moves.to.now row

-- the lowest good move of a state of the winner among the first k moves
abbrev pub good_on : Board → ℕ → Bool → List ℕ → ℕ → ℕ → ℕ
good_on board winner chase row =
    let moves = board.moves in
    lowest_good winner chase (λ s. get_or board.turn.now s 0) (λ k. get_or moves.from.now k 0) (λ k. get_or moves.to.now k 0) (λ s. get_or row s 0)

-- what the lent rows hold
abbrev pub rows_of : LentRows → Rows
rows_of rows = record { marks = rows.marks.now; blocks = rows.blocks.now; moves = rows.moves.now }

-- they are still the rows that the caller lent
abbrev pub SameRows : LentRows → LentRows → Type 0
SameRows old new =
    (new.marks.ghost_name ≡ old.marks.ghost_name) × (new.blocks.ghost_name ≡ old.blocks.ghost_name) × (new.moves.ghost_name ≡ old.moves.ghost_name)
