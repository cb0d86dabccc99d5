-- What the rows of a decoded game hold at each state and at each move.
use mathlib.Core.Path.{◌≡◌, ap}
use mathlib.Core.List.{List}
use Prim.Native.Nat.{ℕ, ◌<◌}
use Rattle.game.specs.Game.{state_no, block_no, marked, turn_at, marks_at, block_at, from_at, to_at, initials, targets}
use Rattle.game.proofs.Rows.{fill-cell}
use Rattle.file.specs.Layout.{states, moves, turn, marks, block, from, to}
use Rattle.file.specs.Refusals.{initial, target}
use Rattle.decoding.specs.Decode.{turn_row, marks_row, block_row, from_row, to_row, game_of}

module _ (f : List ℕ) where
  pub turn_is : (s : ℕ) → s < states f → turn_at (game_of f) s ≡ turn f s
  unfolding game_of turn_row
  turn_is s l = fill-cell (states f) _ _ s 0 l

  pub marks_is : (s : ℕ) → s < states f → marks_at (game_of f) s ≡ marks f s
  unfolding game_of marks_row
  marks_is s l = fill-cell (states f) _ _ s 0 l

  pub block_is : (s : ℕ) → s < states f → block_at (game_of f) s ≡ block f s
  unfolding game_of block_row
  block_is s l = ap (λ b. b.0) (fill-cell (states f) (λ s. block_no (block f s)) _ s (block_no 0) l)

  pub from_is : (k : ℕ) → k < moves f → from_at (game_of f) k ≡ from f k
  unfolding game_of from_row
  from_is k l = ap (λ n. n.0) (fill-cell (moves f) (λ k. state_no (from f k)) _ k (state_no 0) l)

  pub to_is : (k : ℕ) → k < moves f → to_at (game_of f) k ≡ to f k
  unfolding game_of to_row
  to_is k l = ap (λ n. n.0) (fill-cell (moves f) (λ k. state_no (to f k)) _ k (state_no 0) l)

  pub initial_is : (s : ℕ) → s < states f → initials (game_of f) s ≡ initial f s
  initial_is s l = ap (marked 1) (marks_is s l)

  pub target_is : (s : ℕ) → s < states f → targets (game_of f) s ≡ target f s
  target_is s l = ap (marked 2) (marks_is s l)
