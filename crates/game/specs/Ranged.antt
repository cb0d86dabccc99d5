-- What a walk over the moves of a game counts on, for the contracts of internal functions: ranges of numbers, and turns.
use Rattle.std.specs.Prelude.{ℕ, ◌≤◌, ◌<◌, T}
use Rattle.game.specs.Limits.{max_states, max_moves}
use Rattle.game.specs.Game.{known_turn, turn_at, block_at, from_at, to_at}
use Rattle.game.specs.declared.Game.{Game}

-- the counts are within the limits, turns are among those named, blocks and the ends of moves are numbers of states
pub record Ranged (g : Game) : Type 0 where
  pub few-states : g.states ≤ max_states
  pub few-moves : g.moves ≤ max_moves
  pub turn-known : (s : ℕ) → s < g.states → T (known_turn (turn_at g s))
  pub block-state : (s : ℕ) → s < g.states → block_at g s < g.states
  pub from-state : (k : ℕ) → k < g.moves → from_at g k < g.states
  pub to-state : (k : ℕ) → k < g.moves → to_at g k < g.states
