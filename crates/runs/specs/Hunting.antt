-- A run seen from the side that hunts, for the contracts of internal functions. Nothing that is promised is stated in these
-- terms; proofs/ has the laws that tie them to 01's words.
use Rattle.std.specs.Prelude.{ℕ, Bool, ◌&&◌}
use Rattle.arena.specs.Sets.{Set, imp, some, every}
use Rattle.arena.specs.Arena.{Side}
use Rattle.arena.specs.Win.{Goal, to_reach, to_stay}
use Rattle.game.specs.Game.{block_at, initials, targets}
use Rattle.game.specs.Published.{goal_of, arena_of}
use Rattle.game.specs.declared.Game.{Game}
use Rattle.blocks.specs.Hunt.{hunter, prey, lower, upper}

-- the goal of a game, as its hunter sees it: who hunts, and where to
abbrev pub hunting_side : Game → Side
hunting_side g = hunter (goal_of g.objective)

abbrev pub prey_states : Game → Set
prey_states g = prey (goal_of g.objective) (targets g)

-- what the hunting side surely brings about, and what it may
abbrev pub lower_states : Game → Set
lower_states g = lower (arena_of g) (block_at g) (hunting_side g) (prey_states g)

abbrev pub upper_states : Game → Set
upper_states g = upper (arena_of g) (block_at g) (hunting_side g) (prey_states g)

-- ## When a round is settled

-- the side that hunts has its way by X: some start is in X (reach), or every start is (stay)
unfoldable pub has_way : Goal → ℕ → Set → Set → Bool
has_way to_reach n starts X = some n (λ s. starts s && X s)
has_way to_stay n starts X = every n (λ s. imp (starts s) (X s))

-- the hunting side surely has its way, or may have it
abbrev pub caught : Game → Bool
caught g = has_way (goal_of g.objective) g.states (initials g) (lower_states g)

abbrev pub catchable : Game → Bool
catchable g = has_way (goal_of g.objective) g.states (initials g) (upper_states g)
