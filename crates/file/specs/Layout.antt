-- 01, 'Game file': what stands where in the bytes f of a file.
use Rattle.std.specs.Prelude.{ℕ, ◌+◌, ◌*◌, ◌≤◌, ◌<◌, ◌≡◌, List, get_or}
use Rattle.game.specs.Limits.{max_states, max_moves}
use Rattle.file.specs.declared.Kind.{Kind}
use Rattle.file.specs.declared.Kind.TheVariants.{Head, State, Move}

-- the byte at place i
abbrev pub byte : List ℕ → ℕ → ℕ
byte f i = get_or f i 0

-- demand 1, 'all byte strings': every place holds a byte
abbrev pub Bytes : List ℕ → Type 0
Bytes f = (i : ℕ) → byte f i < 256

-- 01, 'Game file': all numbers are little-endian and two bytes
unfoldable pub number_at : List ℕ → ℕ → ℕ
number_at f i = byte f i + 256 * byte f (i + 1)

-- 01, 'Game file': the head stands first; after length and kind it has states, moves, objective
abbrev pub states : List ℕ → ℕ
states f = number_at f 4

abbrev pub moves : List ℕ → ℕ
moves f = number_at f 6

abbrev pub objective : List ℕ → ℕ
objective f = number_at f 8

-- 01, 'Game file': the record of state s; after length and kind it has turn (one byte), marks (one byte), block
abbrev pub state_at : ℕ → ℕ
state_at s = 10 + 8 * s

abbrev pub turn : List ℕ → ℕ → ℕ
turn f s = byte f (state_at s + 4)

abbrev pub marks : List ℕ → ℕ → ℕ
marks f s = byte f (state_at s + 5)

abbrev pub block : List ℕ → ℕ → ℕ
block f s = number_at f (state_at s + 6)

-- 01, 'Game file': the record of move k, and after the last move the end; after length and kind it has from, to
unfoldable pub move_at : List ℕ → ℕ → ℕ
move_at f k = 10 + 8 * states f + 8 * k

abbrev pub from : List ℕ → ℕ → ℕ
from f k = number_at f (move_at f k + 4)

abbrev pub to : List ℕ → ℕ → ℕ
to f k = number_at f (move_at f k + 6)

-- 01, 'Game file': kind 1, head, length 8; kind 2, state, length 6; kind 3, move, length 6
abbrev pub number_of : Kind → ℕ
number_of Head = 1
number_of State = 2
number_of Move = 3

abbrev pub length_of : Kind → ℕ
length_of Head = 8
length_of State = 6
length_of Move = 6

-- n and m are the numbers of states and moves that the head says, and within the limits
pub record Counted (f : List ℕ) (n m : ℕ) : Type 0 where
  pub states-said : n ≡ states f
  pub moves-said : m ≡ moves f
  pub few-states : n ≤ max_states
  pub few-moves : m ≤ max_moves
