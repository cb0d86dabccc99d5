-- What a file decodes to.
use Rattle.std.specs.Prelude.{ℕ, List, Result}
use Rattle.game.specs.Limits.{max_states, max_moves}
use Rattle.game.specs.Rows.{fill, blank, zeros}
use Rattle.game.specs.Game.{state_no, block_no}
use Rattle.game.specs.declared.StateNo.{StateNo}
use Rattle.game.specs.declared.BlockNo.{BlockNo}
use Rattle.game.specs.declared.Game.{Game}
use Rattle.file.specs.declared.refusal.Refusal.{Refusal}
use Rattle.file.specs.Fault.{answered}
use Rattle.file.specs.Layout.{states, moves, objective, turn, marks, block, from, to}
use Rattle.file.specs.Refusals.{refusal}

-- 01, 'Game file': the rows that the records of f say, one place per state or per move, and 0 after them
unfoldable pub turn_row : List ℕ → List ℕ
turn_row f = fill (states f) (turn f) (zeros max_states)

unfoldable pub marks_row : List ℕ → List ℕ
marks_row f = fill (states f) (marks f) (zeros max_states)

unfoldable pub block_row : List ℕ → List BlockNo
block_row f = fill (states f) (λ s. block_no (block f s)) (blank max_states (block_no 0))

unfoldable pub from_row : List ℕ → List StateNo
from_row f = fill (moves f) (λ k. state_no (from f k)) (blank max_moves (state_no 0))

unfoldable pub to_row : List ℕ → List StateNo
to_row f = fill (moves f) (λ k. state_no (to f k)) (blank max_moves (state_no 0))

-- 01, 'Game file': the game that the records of f say
unfoldable pub game_of : List ℕ → Game
game_of f =
    record {
      states = states f;
      moves = moves f;
      objective = objective f;
      turn = turn_row f;
      marks = marks_row f;
      block = block_row f;
      from = from_row f;
      to = to_row f;
    }

-- demand 1: what decoding answers to the bytes f
unfoldable pub decoded : List ℕ → Result Game Refusal
decoded f = answered (refusal f) (game_of f)
