-- Who wins a game, by the published definition, which knows no blocks; and the plans of the two sides.
use Rattle.std.specs.Prelude.{ℕ, ◌<◌, T, eqb}
use Rattle.arena.specs.Sets.{Set, compl}
use Rattle.arena.specs.Arena.{Side, one, two}
use Rattle.arena.specs.Win.{Objective, Goal, swap_goal, objective, Winning, Spoils}
use Rattle.arena.specs.Plan.{WinningPlan, StrategyByRow}
use Rattle.game.specs.Game.{initials, targets}
use Rattle.game.specs.Published.{goal_of, arena_of}
use Rattle.game.specs.declared.Game.{Game}

-- demand 2: the objective of side 1, reach the target or stay in it for ever
abbrev pub objective_of : Game → Objective
objective_of g = objective (goal_of g.objective) (targets g)

-- demand 2: state s lets side 1 force its objective against all play
abbrev pub Wins : Game → ℕ → Type 0
Wins g s = Winning (arena_of g) one (objective_of g) s

-- 000, section 2: from s side 2 has a strategy against which side 1 never meets its objective
abbrev pub Loses : Game → ℕ → Type 0
Loses g s = Spoils (arena_of g) one (objective_of g) s

-- demand 2: some marked start lets side 1 force its objective
abbrev pub SomeStartWins : Game → Type 0
SomeStartWins g = (s : ℕ) × (s < g.states) × T (initials g s) × Wins g s

-- demand 2, 'The winner's plan is shown, and it wins': every play by the row is won, and the row is a strategy that wins
abbrev pub PlanWins : Game → Side → Goal → Set → Set → (ℕ → ℕ) → Type 0
PlanWins g i o A from row = WinningPlan (arena_of g) i o A from row × StrategyByRow (arena_of g) i o A from row

-- 01, 'What is handed back': side 1 meets its objective from the named start
abbrev pub PlanOfYes : Game → ℕ → (ℕ → ℕ) → Type 0
PlanOfYes g named row = PlanWins g one (goal_of g.objective) (targets g) (λ s. eqb s named) row

-- 01, 'What is handed back': side 2 meets the opposite one, for the states outside the target, from every start
abbrev pub PlanOfNo : Game → (ℕ → ℕ) → Type 0
PlanOfNo g row = PlanWins g two (swap_goal (goal_of g.objective)) (compl (targets g)) (initials g) row
