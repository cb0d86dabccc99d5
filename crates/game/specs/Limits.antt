-- The limits that belong to the game itself. In code they are `Game::MAX_STATES` and `Game::MAX_MOVES`.
use Rattle.std.specs.Prelude.{ℕ}

-- 01, 'Numbers and limits': states 1 to 512
abbrev pub max_states : ℕ
max_states = 512

-- 01, 'Numbers and limits': moves 1 to 4,096
abbrev pub max_moves : ℕ
max_moves = 4096
