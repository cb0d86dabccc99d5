-- Demand 3, of an accepted file with the bytes f and of the bytes h that the exchange wrote: of both games, and of the outcomes of two
-- calls with equal allowance a and rows that are long enough.
use Rattle.std.specs.Prelude.{ℕ, ◌<◌, ◌≡◌, not, ◌↔◌, List}
use Rattle.arena.specs.Arena.{other}
use Rattle.arena.specs.Win.{swap_goal}
use Rattle.game.specs.Game.{turn_at, initials, targets}
use Rattle.game.specs.Published.{side_of, goal_of}
use Rattle.game.specs.declared.Game.{Game}
use Rattle.file.specs.Refusals.{refusal}
use Rattle.decoding.specs.Decode.{game_of}
use Rattle.runs.specs.Run.{lowest_first, round}
use Rattle.solver.specs.Solve.{run_of, Outcome}
use Rattle.demands.specs.Winners.{Wins}
use Rattle.demands.specs.Meaning.{place, splits_of}
use Rattle.demands.specs.Trades.{SingleStart, trade_mark, trade_run, trade_verdict, SameRound}

-- 'Exchange the sides': in h what g has, with the sides exchanged; initial marks, blocks and moves are equal
pub record SidesExchanged (g h : Game) : Type 0 where
  pub same-states : h.states ≡ g.states
  -- 'flip whose turn each state is,
  pub turns : (s : ℕ) → s < g.states → side_of (turn_at h s) ≡ other (side_of (turn_at g s))
  -- take the other states as target,
  pub target : (s : ℕ) → s < g.states → targets h s ≡ not (targets g s)
  -- and turn reach into stay or stay into reach.'
  pub goal : goal_of h.objective ≡ swap_goal (goal_of g.objective)
  pub starts : (s : ℕ) → s < g.states → initials h s ≡ initials g s
  pub blocks : h.block ≡ g.block
  pub moves : (h.moves ≡ g.moves) × (h.from ≡ g.from) × (h.to ≡ g.to)

pub record Demand3 (f : List ℕ) (a : ℕ) (out : Outcome) (h : List ℕ) (out' : Outcome) : Type 0 where
  pub accepted : refusal h ≡ 0
  pub exchanged : SidesExchanged (game_of f) (game_of h)
  -- 'The states side 1 can win are then exactly those it could not win before.'
  pub winners : (s : ℕ) → s < (game_of f).states → Wins (game_of h) s ↔ (Wins (game_of f) s → ⊥)
  -- round by round, whatever the starts: the same splits in the same order
  pub same_rounds : (k : ℕ) → SameRound (round lowest_first k (game_of f)) (round lowest_first k (game_of h))
  -- 'With a single start and equal allowance, the exchanged run makes the same splits in the same order,
  pub same-splits : (start : ℕ) → SingleStart (game_of f) start → (run_of h a ≡ trade_run (run_of f a)) × (splits_of out'.answer ≡ splits_of out.answer)
  pub same_blocks : (start : ℕ) → SingleStart (game_of f) start
      → (s : ℕ) → s < (game_of f).states → place out'.rows.blocks s ≡ place out.rows.blocks s
  -- shows the same plan,
  pub same-plan : (start : ℕ) → SingleStart (game_of f) start
      → (s : ℕ) → s < (game_of f).states → place out'.rows.moves s ≡ place out.rows.moves s
  -- and YES and NO,
  pub verdict_traded : (start : ℕ) → SingleStart (game_of f) start → out'.answer ≡ trade_verdict start out.answer
  -- sure and never trade places; open stays open.'
  pub marks_traded : (start : ℕ) → SingleStart (game_of f) start
      → (s : ℕ) → s < (game_of f).states → place out'.rows.marks s ≡ trade_mark (place out.rows.marks s)
