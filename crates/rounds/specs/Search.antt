-- The rows of plain numbers that are lent to the search for a border block, and what they say of a game.
use Rattle.std.specs.Prelude.{ℕ, zero, suc, ◌<◌, ◌≡◌, false, List, get_or, T}
use Rattle.arena.specs.Arena.{forced}
use Rattle.game.specs.Game.{known_turn, turn_at, block_at, from_at, to_at}
use Rattle.game.specs.Published.{side_of, arena_of}
use Rattle.game.specs.Accepted.{AcceptedGame}
use Rattle.game.specs.declared.Game.{Game}
use Rattle.blocks.specs.Blocks.{meets}
use Rattle.growth.specs.Stamp.{is_in}
use Rattle.chains.specs.Lent.{Holds, last_of, Linked}

-- where the moves of s begin: after the last one of the state before it, since moves ascend and every state has one
abbrev pub first_move : (ℕ → ℕ) → ℕ → ℕ → ℕ
first_move from m zero = 0
first_move from m (suc s) = last_of from m s

-- n states and m moves; whose turn it is, where the moves of each state begin, the states that moves go to, the blocks and their members; a
-- set, and the hits of each block: where there is none, no member is in the side's forced-step set of it
pub record Search (g : Game) (side n m : ℕ) (turn first to block last before lower hit : List ℕ) : Type 0 where
  pub accepted : AcceptedGame g
  pub known : T (known_turn side)
  pub states_is : g.states ≡ n
  pub moves_is : g.moves ≡ m
  pub turn_is : Holds n turn (turn_at g)
  pub first_is : Holds (suc n) first (first_move (from_at g) m)
  pub to_is : Holds m to (to_at g)
  pub block_is : Holds n block (block_at g)
  pub chains : Linked n n block last before
  pub unhit : (b : ℕ) → b < n → block_at g b ≡ b → get_or hit b 0 ≡ 0 → meets g.states (block_at g) (forced (arena_of g) (side_of side) (is_in lower)) b ≡ false
