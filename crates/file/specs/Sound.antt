-- What the records of a file say once refusals 2 to 6 are ruled out: what the code that reads them needs.
use Rattle.std.specs.Prelude.{ℕ, ◌≤◌, ◌<◌, ◌≡◌, true, List, length}
use Rattle.game.specs.Limits.{max_states, max_moves}
use Rattle.game.specs.Game.{known_objective, known_turn}
use Rattle.file.specs.Layout.{states, moves, objective, state_at, turn, marks, block, move_at, from, to}
use Rattle.file.specs.Refusals.{ascends}

-- 01, 'Refusals in their order': refusals 2 to 6 are not given
pub record Sound (f : List ℕ) : Type 0 where
  pub some-states : 1 ≤ states f
  pub few-states : states f ≤ max_states
  pub some-moves : 1 ≤ moves f
  pub few-moves : moves f ≤ max_moves
  pub objective-known : known_objective (objective f) ≡ true
  pub states-long : state_at (states f) ≤ length f
  pub long : move_at f (moves f) ≤ length f
  pub turn-known : (s : ℕ) → s < states f → known_turn (turn f s) ≡ true
  pub marks_high : (s : ℕ) → s < states f → marks f s ≤ 3
  pub below : (s : ℕ) → s < states f → block f s ≤ s
  pub own : (s : ℕ) → s < states f → block f (block f s) ≡ block f s
  pub froms : (k : ℕ) → k < moves f → from f k < states f
  pub tos : (k : ℕ) → k < moves f → to f k < states f
  pub ascending : (k : ℕ) → k < moves f → ascends f k ≡ true
