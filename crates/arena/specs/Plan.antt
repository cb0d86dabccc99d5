-- A plan: a row that holds a move for some of the states, and what it is for a side to win by following it.
use Rattle.std.specs.Prelude.{ℕ, suc, ◌-◌, ◌≤◌, ◌<◌, ◌≡◌, List, T}
use Rattle.arena.specs.Sets.{Set}
use Rattle.arena.specs.Arena.{Side, other, Arena, mine}
use Rattle.arena.specs.Play.{Strategy, Play, outcome}
use Rattle.arena.specs.Win.{Objective, Stay, Goal, to_reach, to_stay, objective}

-- 01, 'What is handed back': a moves place is 65535 where it holds no move
abbrev pub no_move : ℕ
no_move = 65535

-- r is a move of state s, and no empty place of a row
pub record Advised (g : Arena) (s r : ℕ) : Type 0 where
  pub given : r ≡ no_move → ⊥
  pub state : r < g.size
  pub legal : T (g.move s r)

-- at the states of side i that have a move in the row the sequence p takes it
abbrev pub Obeys : Arena → Side → (ℕ → ℕ) → (ℕ → ℕ) → Type 0
Obeys g i row p = (j : ℕ) → T (mine g i (p j)) → (row (p j) ≡ no_move → ⊥) → p (suc j) ≡ row (p j)

-- 01, 'What is handed back': the goal is met, and what is to be reached within states minus 1 moves
abbrev pub Met : ℕ → Goal → Set → Objective
Met n to_reach A p = (m : ℕ) × (m ≤ n - 1) × T (A (p m))
Met n to_stay A p = Stay A p

-- in the first k moves the goal is not met yet; a stay is never done with
abbrev pub Pending : Goal → Set → (ℕ → ℕ) → ℕ → Type 0
Pending to_reach A p k = (j : ℕ) → j ≤ k → T (A (p j)) → ⊥
Pending to_stay A p k = Unit {0}

-- demand 2, 'The winner's plan is shown, and it wins': by the row side i meets the goal o for the set A from each state of `from`
pub record WinningPlan (g : Arena) (i : Side) (o : Goal) (A from : Set) (row : ℕ → ℕ) : Type 0 where
  -- every play from there that follows the row meets the goal
  pub wins : (p : ℕ → ℕ) → Play g p → T (from (p 0)) → Obeys g i row p → Met g.size o A p
  -- and each state of side i that it comes to before has a move in the row
  pub advises : (p : ℕ → ℕ) → Play g p → T (from (p 0)) → Obeys g i row p
      → (k : ℕ) → Pending o A p k → T (mine g i (p k)) → Advised g (p k) (row (p k))
  -- whatever the row holds for a state is a move of it
  pub legal : (s : ℕ) → s < g.size → (row s ≡ no_move → ⊥) → Advised g s (row s)

-- demand 2, 'The winner's plan is shown': a strategy that takes the row's move wherever there is one
abbrev pub ByRow : (g : Arena) (i : Side) → (ℕ → ℕ) → Strategy g i → Type 0
ByRow g i row σ = (h : List ℕ) (s : ℕ) → s < g.size → (row s ≡ no_move → ⊥) → σ.next h s ≡ row s

-- 000, definition 6: such a strategy meets the goal from each state of `from` against every opposing one
abbrev pub StrategyByRow : Arena → Side → Goal → Set → Set → (ℕ → ℕ) → Type 0
StrategyByRow g i o A from row =
    (σ : Strategy g i) × ByRow g i row σ
    × ((s : ℕ) → s < g.size → T (from s) → (τ : Strategy g (other i)) → objective o A (outcome g i σ τ s))
