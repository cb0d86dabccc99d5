-- 01, 'One round': the verdict of a round, the split, and the rounds of a run.
use Rattle.std.specs.Prelude.{ℕ, zero, suc, ◌<◌, ◌≡◌, not, ◌&&◌, cond, T}
use Rattle.arena.specs.Sets.{Set, some, least}
use Rattle.game.specs.Rows.{fill}
use Rattle.game.specs.Game.{block_no, block_at, initials, targets, reblocked}
use Rattle.game.specs.Published.{goal_of, arena_of}
use Rattle.game.specs.Accepted.{AcceptedGame}
use Rattle.game.specs.declared.Game.{Game}
use Rattle.blocks.specs.Blocks.{split}
use Rattle.blocks.specs.Round.{sure, possible, into_known, border, border_block}

-- 01, 'One round': sure, possible, and the set by which a border block is split, of a game with its present blocks
abbrev pub sure_states : Game → Set
sure_states g = sure (arena_of g) (block_at g) (goal_of g.objective) (targets g)

abbrev pub possible_states : Game → Set
possible_states g = possible (arena_of g) (block_at g) (goal_of g.objective) (targets g)

abbrev pub into_known_states : Game → Set
into_known_states g = into_known (arena_of g) (block_at g) (goal_of g.objective) (targets g)

-- 01, 'One round': b is the number of a border block
pub record BorderBlock (g : Game) (b : ℕ) : Type 0 where
  pub state : b < g.states
  pub name : block_at g b ≡ b
  pub on_border : T (border (arena_of g) (block_at g) (goal_of g.objective) (targets g) b)

-- 01, 'One round': which border block of a round is split
abbrev pub Choice : Type 0
Choice = Game → ℕ

-- 01, 'One round': the lowest-numbered border block
abbrev pub lowest_first : Choice
lowest_first g = border_block (arena_of g) (block_at g) (goal_of g.objective) (targets g)

-- 01, 'One round': the verdict's words
pub data Word : Type 0 where
  YES NO OPEN : Word

-- 01, 'One round': no initial state possible, NO; some initial state sure, YES; otherwise open as yet
unfoldable pub word : Game → Word
word g =
    cond (not (some g.states (λ s. initials g s && possible_states g s))) NO
    (cond (some g.states (λ s. initials g s && sure_states g s)) YES OPEN)

-- 01, 'One round': in every open round of an accepted game the choice is a border block
abbrev pub Borders : Choice → Type 0
Borders choose = (g : Game) → AcceptedGame g → word g ≡ OPEN → BorderBlock g (choose g)

-- 01, 'What is handed back': the lowest-numbered sure initial state
unfoldable pub named_start : Game → ℕ
named_start g = least g.states (λ s. initials g s && sure_states g s)

-- 01, 'One round': the chosen block is split into the members inside that set and the others
unfoldable pub split_game : Choice → Game → Game
split_game choose g =
    reblocked g (fill g.states (λ s. block_no (split g.states (block_at g) (choose g) (into_known_states g) s)) g.block)

-- 01, 'One round': how many splits were made, and the game with the blocks of the last round
pub record Run : Type 0 where
  pub splits : ℕ
  pub last : Game

-- one split more
abbrev pub one_more_split : Run → Run
one_more_split r = record { splits = suc r.splits; last = r.last }

-- the run ends in this round
abbrev pub ended : Game → Run
ended g = record { splits = 0; last = g }

-- where a round is open as yet the run goes on
abbrev pub if_open : Word → Run → Run → Run
if_open YES more here = here
if_open NO more here = here
if_open OPEN more here = more

-- 01, 'One round': splits made equal the allowance, OPEN; otherwise a border block is split and the next round begins
unfoldable pub run : Choice → ℕ → Game → Run
run choose zero g = ended g
run choose (suc left) g = if_open (word g) (one_more_split (run choose left (split_game choose g))) (ended g)

-- 01, 'One round': the game of the round after k splits
unfoldable pub round : Choice → ℕ → Game → Game
round choose zero g = g
round choose (suc k) g = round choose k (split_game choose g)
