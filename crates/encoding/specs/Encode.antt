-- 01, 'Game file': the file of a game, record by record.
use Rattle.std.specs.Prelude.{ℕ, zero, suc, ◌+◌, ◌/◌, ◌%◌, List, [], ◌∷◌, ◌++◌, length}
use Rattle.game.specs.Game.{turn_at, marks_at, block_at, from_at, to_at}
use Rattle.game.specs.declared.Game.{Game}

-- 01, 'Game file': all numbers are little-endian and two bytes
unfoldable pub two_bytes : ℕ → List ℕ
two_bytes n = n % 256 ∷ n / 256 ∷ []

-- 01, 'Game file': a two-byte length (bytes after the length field), a two-byte kind, a body
unfoldable pub framed : ℕ → List ℕ → List ℕ
framed kind body = two_bytes (2 + length body) ++ two_bytes kind ++ body

-- 01, 'Game file': kind 1, head: states, moves, objective
unfoldable pub head_record : ℕ → ℕ → ℕ → List ℕ
head_record states moves objective = framed 1 (two_bytes states ++ two_bytes moves ++ two_bytes objective)

-- 01, 'Game file': kind 2, state: turn (one byte), marks (one byte), block
unfoldable pub state_record : ℕ → ℕ → ℕ → List ℕ
state_record turn marks block = framed 2 (turn ∷ marks ∷ two_bytes block)

-- 01, 'Game file': kind 3, move: from, to
unfoldable pub move_record : ℕ → ℕ → List ℕ
move_record from to = framed 3 (two_bytes from ++ two_bytes to)

-- 01, 'Game file': records follow each other; the first n of them
unfoldable pub records : ℕ → (ℕ → List ℕ) → List ℕ
records zero each = []
records (suc n) each = records n each ++ each n

-- 01, 'Game file': the head once, first; one record per state, in order; the moves
unfoldable pub file_of : Game → List ℕ
file_of g =
    head_record g.states g.moves g.objective
    ++ (records g.states (λ s. state_record (turn_at g s) (marks_at g s) (block_at g s))
    ++ records g.moves (λ k. move_record (from_at g k) (to_at g k)))
