-- What the rows of a game say.
use Rattle.std.specs.Prelude.{ℕ, Bool, ◌&&◌, ◌||◌, List, get_or, eqb, leb}
use Rattle.arena.specs.Sets.{Set, some}
use Rattle.game.specs.Limits.{max_states, max_moves}
use Rattle.game.specs.Rows.{blank, zeros}
use Rattle.game.specs.declared.StateNo.{StateNo}
use Rattle.game.specs.declared.BlockNo.{BlockNo}
use Rattle.game.specs.declared.Game.{Game}

-- 01, 'Numbers and limits': a state's number names one state
abbrev pub state_no : ℕ → StateNo
state_no n = record { 0 = n }

-- 01, 'Numbers and limits': a block's number names a set
abbrev pub block_no : ℕ → BlockNo
block_no n = record { 0 = n }

-- x is at least a and at most b
abbrev pub within : ℕ → ℕ → ℕ → Bool
within a b x = leb a x && leb x b

-- 01, 'Game file': objective (1 reach, 2 stay)
abbrev pub known_objective : ℕ → Bool
known_objective o = within 1 2 o

-- 01, 'Game file': turn (1 or 2)
abbrev pub known_turn : ℕ → Bool
known_turn t = within 1 2 t

-- 01, 'Game file': marks m are 1 initial, 2 target, 3 both; they hold the given one of the first two
abbrev pub marked : ℕ → ℕ → Bool
marked mark m = eqb m mark || eqb m 3

-- 01, 'The game': the turn of state s, 1 or 2
abbrev pub turn_at : Game → ℕ → ℕ
turn_at g s = get_or g.turn s 0

-- 01, 'Game file': the marks of state s
abbrev pub marks_at : Game → ℕ → ℕ
marks_at g s = get_or g.marks s 0

-- 01, 'Numbers and limits': the number of the block of state s
abbrev pub block_at : Game → ℕ → ℕ
block_at g s = (get_or g.block s (block_no 0)).0

-- 01, 'Game file': the state that move k leaves
abbrev pub from_at : Game → ℕ → ℕ
from_at g k = (get_or g.from k (state_no 0)).0

-- 01, 'Game file': the state that move k goes to
abbrev pub to_at : Game → ℕ → ℕ
to_at g k = (get_or g.to k (state_no 0)).0

-- 01, 'The game': the initial states
abbrev pub initials : Game → Set
initials g s = marked 1 (marks_at g s)

-- 01, 'The game': the target
abbrev pub targets : Game → Set
targets g s = marked 2 (marks_at g s)

-- 01, 'The game': there is a move from s to t
unfoldable pub has_move : Game → ℕ → ℕ → Bool
has_move g s t = some g.moves (λ k. eqb (from_at g k) s && eqb (to_at g k) t)

-- 01, 'One round': the game with another row of blocks
abbrev pub reblocked : Game → List BlockNo → Game
reblocked g row =
    record {
      states = g.states;
      moves = g.moves;
      objective = g.objective;
      turn = g.turn;
      marks = g.marks;
      block = row;
      from = g.from;
      to = g.to;
    }

-- the game of no states and no moves: all rows 0
unfoldable pub empty_game : Game
empty_game =
    record {
      states = 0;
      moves = 0;
      objective = 0;
      turn = zeros max_states;
      marks = zeros max_states;
      block = blank max_states (block_no 0);
      from = blank max_moves (state_no 0);
      to = blank max_moves (state_no 0);
    }
