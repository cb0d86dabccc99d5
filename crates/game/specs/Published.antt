-- The game of 000 that the rows of a game say. It knows no blocks.
use Rattle.std.specs.Prelude.{ℕ, cond, eqb}
use Rattle.arena.specs.Arena.{Side, one, two, Arena}
use Rattle.arena.specs.Win.{Goal, to_reach, to_stay}
use Rattle.game.specs.Game.{turn_at, has_move}
use Rattle.game.specs.declared.Game.{Game}

-- 01, 'Game file': turn 1 is side 1's, 2 is side 2's
abbrev pub side_of : ℕ → Side
side_of t = cond (eqb t 1) one two

-- 01, 'Game file': objective 1 is reach, 2 is stay
abbrev pub goal_of : ℕ → Goal
goal_of o = cond (eqb o 1) to_reach to_stay

-- 000, definition 1; 01, 'The game': the states, whose turn each is, and the moves
unfoldable pub arena_of : Game → Arena
arena_of g = record { size = g.states; turn = λ s. side_of (turn_at g s); move = has_move g }
