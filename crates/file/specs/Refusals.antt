-- 01, 'Refusals in their order': the first refusal of the bytes f of a file, line by line.
use Rattle.std.specs.Prelude.{ℕ, zero, suc, ◌+◌, ◌<◌, ◌≡◌, Bool, true, false, get_or, not, ◌&&◌, ◌||◌, List, length, eqb, leb, ltb}
use Rattle.arena.specs.Sets.{Set, some, every}
use Rattle.game.specs.Limits.{max_states, max_moves}
use Rattle.game.specs.Game.{within, known_objective, known_turn, marked}
use Rattle.file.specs.Fault.{unless, ◌then◌, lowest}
use Rattle.file.specs.Layout.{number_at, states, moves, objective, state_at, turn, marks, block, move_at, from, to}

-- 2 if fewer than 4 bytes remain; 3 for its length or kind; 2 if its body is cut
unfoldable pub frame : List ℕ → ℕ → ℕ → ℕ → ℕ
frame f at len kind =
    unless (leb (at + 4) (length f)) 2
    then unless (eqb (number_at f at) len) 3
    then unless (eqb (number_at f (at + 2)) kind) 3
    then unless (leb (at + 2 + len) (length f)) 2

-- 4: states, moves or objective outside the ranges above
unfoldable pub head_fields : List ℕ → ℕ
head_fields f =
    unless (within 1 max_states (states f)) 4
    then unless (within 1 max_moves (moves f)) 4
    then unless (known_objective (objective f)) 4

-- kind 1, head, length 8: once, first
unfoldable pub head_fault : List ℕ → ℕ
head_fault f = frame f 0 8 1 then head_fields f

-- 5: turn not 1 or 2; marks above 3; block number above the state's own, or naming a state whose own block is another
unfoldable pub state_fields : List ℕ → ℕ → ℕ
state_fields f s =
    unless (known_turn (turn f s)) 5
    then unless (leb (marks f s) 3) 5
    then unless (leb (block f s) s) 5
    then unless (eqb (block f (block f s)) (block f s)) 5

-- kind 2, state, length 6: one per state, in order
unfoldable pub state_fault : List ℕ → ℕ → ℕ
state_fault f s = frame f (state_at s) 6 2 then state_fields f s

-- one pair of from and to is below the next
unfoldable pub pair_below : ℕ → ℕ → ℕ → ℕ → Bool
pair_below a b c d = ltb a c || eqb a c && ltb b d

-- the pair of move k is above the one before
unfoldable pub ascends : List ℕ → ℕ → Bool
ascends f zero = true
ascends f (suc k) = pair_below (from f k) (to f k) (from f (suc k)) (to f (suc k))

-- 6: from or to not a state, or the pair not above the one before
unfoldable pub move_fields : List ℕ → ℕ → ℕ
move_fields f k =
    unless (ltb (from f k) (states f)) 6
    then unless (ltb (to f k) (states f)) 6
    then unless (ascends f k) 6

-- kind 3, move, length 6
unfoldable pub move_fault : List ℕ → ℕ → ℕ
move_fault f k = frame f (move_at f k) 6 3 then move_fields f k

-- the initial states, and the target
abbrev pub initial : List ℕ → Set
initial f s = marked 1 (marks f s)

abbrev pub target : List ℕ → Set
target f s = marked 2 (marks f s)

-- state s has a move
unfoldable pub moved : List ℕ → ℕ → Bool
moved f s = some (moves f) (λ k. eqb (from f k) s)

-- a row that holds of each state whether it has a move
pub record Moved (f : List ℕ) (row : List Bool) : Type 0 where
  pub long : length row ≡ max_states
  pub cell : (s : ℕ) → s < max_states → get_or row s false ≡ moved f s

-- some member of block b is in X
abbrev pub member : List ℕ → Set → ℕ → Bool
member f X b = some (states f) (λ s. eqb (block f s) b && X s)

-- some block has members in X and other members
unfoldable pub mixed : List ℕ → Set → Bool
mixed f X = some (states f) (λ b. member f X b && member f (λ s. not (X s)) b)

-- 10: a block has initial and other members; 11: a block has target and other members
unfoldable pub block_fault : List ℕ → ℕ
block_fault f = unless (not (mixed f (initial f))) 10 then unless (not (mixed f (target f))) 11

-- 7: bytes after the last announced move; 8: no initial state; 9: a state without a move; then 10 and 11
unfoldable pub whole_fault : List ℕ → ℕ
whole_fault f =
    unless (leb (length f) (move_at f (moves f))) 7
    then unless (some (states f) (initial f)) 8
    then unless (every (states f) (moved f)) 9
    then block_fault f

-- each record in file order, the first faulty one decides; then 7 to 11 in order; 0 for an accepted file
unfoldable pub refusal : List ℕ → ℕ
refusal f =
    head_fault f
    then lowest (states f) (state_fault f)
    then lowest (moves f) (move_fault f)
    then whole_fault f
