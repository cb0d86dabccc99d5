-- Objectives, and winning: by strategies over histories, and by numbers of moves.
use Rattle.std.specs.Prelude.{ℕ, zero, suc, ◌&&◌, ◌||◌, T}
use Rattle.arena.specs.Sets.{Set}
use Rattle.arena.specs.Arena.{Side, other, Arena, forced}
use Rattle.arena.specs.Play.{Strategy, outcome}

-- 000, definition 2: an objective, a set of sequences of states
abbrev pub Objective : Type 1
Objective = (ℕ → ℕ) → Type 0

-- 000, the reachability objective; 01, 'The game': some state of the play lies in A, the start counts
abbrev pub Reach : Set → Objective
Reach A p = (k : ℕ) × T (A (p k))

-- 000, the safety objective; 01, 'The game': every state of the play lies in A
abbrev pub Stay : Set → Objective
Stay A p = (k : ℕ) → T (A (p k))

-- 01, 'What is built' and 'Arena file': the two kinds of objective, reach and stay
pub data Goal : Type 0 where
  to_reach to_stay : Goal

-- demand 3, 'turn reach into stay or stay into reach'
abbrev pub swap_goal : Goal → Goal
swap_goal to_reach = to_stay
swap_goal to_stay = to_reach

-- 000, definition 3: the objective that a goal and a target give
abbrev pub objective : Goal → Set → Objective
objective to_reach A = Reach A
objective to_stay A = Stay A

-- 000, definition 6: some strategy of side i has, against every opposing one, its outcome from s in Φ
unfoldable pub Winning : Arena → Side → Objective → ℕ → Type 0
Winning g i Φ s = (σ : Strategy g i) × ((τ : Strategy g (other i)) → Φ (outcome g i σ τ s))

-- 000, section 2, 'Otherwise player 2 wins': some strategy of the opponent has, against every one of side i, its outcome not in Φ
unfoldable pub Spoils : Arena → Side → Objective → ℕ → Type 0
Spoils g i Φ s = (τ : Strategy g (other i)) × ((σ : Strategy g i) → Φ (outcome g i σ τ s) → ⊥)

-- 01, 'The game': in the target, or in the forced-step set of states that win in fewer moves; at most k moves
unfoldable pub reach_in : Arena → Side → Set → ℕ → Set
reach_in g i A zero s = A s
reach_in g i A (suc k) s = A s || forced g i (reach_in g i A k) s

-- 01, 'The game': side i can keep the play in the target for k moves
unfoldable pub stay_for : Arena → Side → Set → ℕ → Set
stay_for g i A zero s = A s
stay_for g i A (suc k) s = A s && forced g i (stay_for g i A k) s

-- 01, 'The game': which states win: reach in some number of moves, stay for every number of moves
abbrev pub ByMoves : Arena → Side → Goal → Set → ℕ → Type 0
ByMoves g i to_reach A s = (k : ℕ) × T (reach_in g i A k s)
ByMoves g i to_stay A s = (k : ℕ) → T (stay_for g i A k s)
