-- 01, 'What is handed back': the marks, and the four rules of the plan.
use Rattle.std.specs.Prelude.{ℕ, not, ◌&&◌, cond, ltb}
use Rattle.arena.specs.Sets.{Set, some, least}
use Rattle.arena.specs.Arena.{Side, one, two, mine}
use Rattle.arena.specs.Win.{Goal, to_reach, to_stay}
use Rattle.arena.specs.Plan.{no_move}
use Rattle.game.specs.Game.{block_at, targets, has_move}
use Rattle.game.specs.Published.{goal_of, arena_of}
use Rattle.game.specs.declared.Game.{Game}
use Rattle.blocks.specs.Round.{entered_sure, left_possible}
use Rattle.runs.specs.Run.{sure_states, possible_states, Word, YES, NO, OPEN}

-- 01, 'What is handed back': marks (0 never, 1 open, 2 sure)
unfoldable pub mark : Game → ℕ → ℕ
mark g s = cond (sure_states g s) 2 (cond (possible_states g s) 1 0)

-- the successors of s in X
abbrev pub successors : Game → ℕ → Set → Set
successors g s X t = has_move g s t && X t

-- 01, 'What is handed back': a state of side i among those told gets its lowest-numbered successor in X
unfoldable pub advice : Game → Side → Set → Set → ℕ → ℕ
advice g i told X s =
    cond (mine (arena_of g) i s && told s && some g.states (successors g s X)) (least g.states (successors g s X)) no_move

-- t entered sure, or dropped out of possible, in an earlier pass of the last round than s
abbrev pub earlier_sure : Game → ℕ → Set
earlier_sure g s t = ltb (entered_sure (arena_of g) (block_at g) (targets g) t) (entered_sure (arena_of g) (block_at g) (targets g) s)

abbrev pub earlier_never : Game → ℕ → Set
earlier_never g s t = ltb (left_possible (arena_of g) (block_at g) (targets g) t) (left_possible (arena_of g) (block_at g) (targets g) s)

-- 01, 'What is handed back': the four rules
unfoldable pub rule : Word → Goal → Game → ℕ → ℕ
rule YES to_reach g s = advice g one (λ t. sure_states g t && not (targets g t)) (earlier_sure g s) s
rule YES to_stay g s = advice g one (sure_states g) (sure_states g) s
rule NO to_reach g s = advice g two (λ t. not (possible_states g t)) (λ t. not (possible_states g t)) s
rule NO to_stay g s = advice g two (λ t. not (possible_states g t) && targets g t) (earlier_never g s) s
rule OPEN o g s = no_move

-- 01, 'What is handed back': the moves place of state s under a verdict
abbrev pub planned : Word → Game → ℕ → ℕ
planned w g s = rule w (goal_of g.objective) g s
