-- What every caller may count on of an accepted game, in terms of its rows alone.
use Rattle.std.specs.Prelude.{ℕ, suc, ◌≤◌, ◌<◌, ◌≡◌, ◌⊎◌, T}
use Rattle.game.specs.Limits.{max_states, max_moves}
use Rattle.game.specs.Game.{known_objective, known_turn, turn_at, marks_at, block_at, from_at, to_at, initials, targets, has_move}
use Rattle.game.specs.declared.Game.{Game}
use Rattle.arena.specs.Sets.{Set}

-- 000, definition 12: the blocks are precise for X, so that members of one block are in X together or not at all
abbrev pub Precise : Game → Set → Type 0
Precise g X = (s t : ℕ) → s < g.states → t < g.states → block_at g s ≡ block_at g t → X s ≡ X t

-- 01, 'Game file': ascending by from, then to, with no pair twice
abbrev pub Ascending : Game → Type 0
Ascending g = (k : ℕ) → suc k < g.moves
    → (from_at g k < from_at g (suc k)) ⊎ ((from_at g k ≡ from_at g (suc k)) × (to_at g k < to_at g (suc k)))

-- 01, 'Refusals in their order': what refusals 4 to 6 and 8 to 11 leave
pub record AcceptedGame (g : Game) : Type 0 where
  -- the counts are in range
  pub some-states : 1 ≤ g.states
  pub few-states : g.states ≤ max_states
  pub some-moves : 1 ≤ g.moves
  pub few-moves : g.moves ≤ max_moves
  -- objective, turns and marks are among those named
  pub objective-known : T (known_objective g.objective)
  pub turn-known : (s : ℕ) → s < g.states → T (known_turn (turn_at g s))
  pub marks_high : (s : ℕ) → s < g.states → marks_at g s ≤ 3
  -- a block is named by its lowest member
  pub block-below : (s : ℕ) → s < g.states → block_at g s ≤ s
  pub block-own : (s : ℕ) → s < g.states → block_at g (block_at g s) ≡ block_at g s
  -- moves go from states to states, in order and none twice
  pub from-state : (k : ℕ) → k < g.moves → from_at g k < g.states
  pub to-state : (k : ℕ) → k < g.moves → to_at g k < g.states
  pub ascending : Ascending g
  -- play goes on for ever
  pub moving : (s : ℕ) → s < g.states → (t : ℕ) × (t < g.states) × T (has_move g s t)
  -- side 1 has a start to choose
  pub start : (s : ℕ) × (s < g.states) × T (initials g s)
  -- no block straddles the starts or the target
  pub precise_starts : Precise g (initials g)
  pub precise_target : Precise g (targets g)
