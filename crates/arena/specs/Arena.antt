-- A game structure, and the states from which a side can force one step.
use Rattle.std.specs.Prelude.{ℕ, ◌<◌, Bool, true, false, ◌&&◌, cond, T}
use Rattle.arena.specs.Sets.{Set, imp, some, every}

-- 000, definition 1; 01, 'The game': the two players, side 1 and side 2
pub data Side : Type 0 where
  one two : Side

-- 000, definition 6: the opponent of a side, written with a bar
abbrev pub other : Side → Side
other one = two
other two = one

-- 000, definition 1: whether two sides are the same one
abbrev pub same : Side → Side → Bool
same one one = true
same one two = false
same two one = false
same two two = true

-- 000, definition 1; 01, 'The game': the states 0 to size - 1, the turn of each, and the moves between them
pub record Arena : Type 0 where
  pub size : ℕ
  pub turn : ℕ → Side
  pub move : ℕ → ℕ → Bool

-- 000, definition 1: the states where it is side i's turn
abbrev pub mine : Arena → Side → Set
mine g i s = same i (g.turn s)

-- 000, definition 1; 01, 'The game': each state has at least one move
abbrev pub Live : Arena → Type 0
Live g = (s : ℕ) → s < g.size → (t : ℕ) × (t < g.size) × T (g.move s t)

-- 000, definition 7; 01, 'The game': the forced-step set of side i for a set X
unfoldable pub forced : Arena → Side → Set → Set
forced g i X s =
    cond (mine g i s)
    (some g.size (λ t. g.move s t && X t))
    (every g.size (λ t. imp (g.move s t) (X t)))

-- demand 3, 'Exchange the sides: flip whose turn each state is'
unfoldable pub flip : Arena → Arena
flip g = record { size = g.size; turn = λ s. other (g.turn s); move = g.move }
