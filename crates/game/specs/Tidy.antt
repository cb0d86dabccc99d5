-- Games as decoding makes them: nothing stands after the last state and the last move.
use Rattle.std.specs.Prelude.{ℕ, ◌≤◌, ◌≡◌, List, length, get_or}
use Rattle.game.specs.Limits.{max_states, max_moves}
use Rattle.game.specs.Game.{state_no, block_no}
use Rattle.game.specs.declared.Game.{Game}

-- a row of `most` places that holds z from place n on
pub record Padded {A : Type 0} (most n : ℕ) (z : A) (row : List A) : Type 0 where
  pub long : length row ≡ most
  pub rest : (i : ℕ) → n ≤ i → get_or row i z ≡ z

-- 01, 'Numbers and limits': one place per state or per move, up to the limits, and 0 after them
pub record Tidy (g : Game) : Type 0 where
  pub turns : Padded max_states g.states 0 g.turn
  pub all-marks : Padded max_states g.states 0 g.marks
  pub blocks : Padded max_states g.states (block_no 0) g.block
  pub froms : Padded max_moves g.moves (state_no 0) g.from
  pub tos : Padded max_moves g.moves (state_no 0) g.to
