-- What an answer means, whole: the outcome of a call with the bytes f, the allowance a and three lent rows.
use Rattle.std.specs.Prelude.{ℕ, suc, ◌+◌, ◌≤◌, ◌<◌, ◌≡◌, ◌&&◌, List, get_or, drop, T, eqb, Result, Ok, Err}
use Rattle.arena.specs.Sets.{least}
use Rattle.arena.specs.Plan.{no_move}
use Rattle.game.specs.Game.{block_at, initials}
use Rattle.game.specs.declared.Game.{Game}
use Rattle.file.specs.declared.refusal.Refusal.{Refusal}
use Rattle.file.specs.Number.{number}
use Rattle.decoding.specs.Decode.{game_of}
use Rattle.blocks.specs.Blocks.{block_count}
use Rattle.runs.specs.Run.{lowest_first, round}
use Rattle.solver.specs.Solve.{Rows, Outcome, solve_fault}
use Rattle.solver.specs.declared.Verdict.{Verdict}
use Rattle.solver.specs.declared.Verdict.TheVariants.{Yes, No, Open}
use Rattle.demands.specs.Winners.{Wins, Loses, SomeStartWins, PlanOfYes, PlanOfNo}

-- what stands at a place of a row
abbrev pub place : List ℕ → ℕ → ℕ
place row s = get_or row s 0

-- 01, 'One round': how many blocks a game has
abbrev pub blocks_of : Game → ℕ
blocks_of g = block_count g.states (block_at g)

-- 01, 'What is handed back': the splits of each answer; a refusal has no count
abbrev pub splits_of : Result Verdict Refusal → ℕ
splits_of (Ok (Yes s n)) = n
splits_of (Ok (No n)) = n
splits_of (Ok (Open n)) = n
splits_of (Err r) = 0

-- YES: side 1 wins from the named start, the lowest-numbered initial state that is marked sure, and the plan is how
pub record SaysYes (g : Game) (rows : Rows) (named : ℕ) : Type 0 where
  pub start : (named < g.states) × T (initials g named)
  pub won : Wins g named
  pub lowest : named ≡ least g.states (λ s. initials g s && eqb (place rows.marks s) 2)
  pub plan : PlanOfYes g named (place rows.moves)

-- NO: side 1 wins from no marked start, and the plan is how side 2 prevents it
pub record SaysNo (g : Game) (rows : Rows) : Type 0 where
  pub none : SomeStartWins g → ⊥
  pub plan : PlanOfNo g (place rows.moves)

-- OPEN: the allowed splits are used up, they were fewer than the states minus the starting blocks, and there is no plan
pub record SaysOpen (g : Game) (a splits : ℕ) (rows : Rows) : Type 0 where
  pub used_up : splits ≡ a
  pub too_few : blocks_of g + a < g.states
  pub no_plan : (s : ℕ) → s < g.states → place rows.moves s ≡ no_move

-- what the answer says; a game that is accepted is not refused
abbrev pub Says : Game → ℕ → Rows → Result Verdict Refusal → Type 0
Says g a rows (Ok (Yes named n)) = SaysYes g rows named.0
Says g a rows (Ok (No n)) = SaysNo g rows
Says g a rows (Ok (Open n)) = SaysOpen g a n rows
Says g a rows (Err r) = ⊥

-- 0 never, 1 open, 2 sure: side 1 wins from a sure state, and side 2 keeps it from winning from a never state
pub record Marked (g : Game) (s mark : ℕ) : Type 0 where
  pub named : mark ≤ 2
  pub sure : mark ≡ 2 → Wins g s
  pub never : mark ≡ 0 → Loses g s

-- a file that is accepted, and rows that are long enough
pub record Answered (g : Game) (a : ℕ) (lent : Rows) (out : Outcome) : Type 0 where
  -- the verdict, the named start and the plan
  pub verdict : Says g a out.rows out.answer
  -- the marks
  pub marks : (s : ℕ) → s < g.states → Marked g s (place out.rows.marks s)
  -- the blocks are those after the splits reported, which are counted on the row; they are at most states minus starting blocks, and no more
  -- than allowed
  pub blocks : (s : ℕ) → s < g.states → place out.rows.blocks s ≡ block_at (round lowest_first (splits_of out.answer) g) s
  pub counted : block_count g.states (place out.rows.blocks) ≡ blocks_of g + splits_of out.answer
  pub bounded : blocks_of g + splits_of out.answer ≤ g.states
  pub allowed : splits_of out.answer ≤ a
  -- the places after those of the states keep their content
  pub kept : (drop g.states out.rows.marks ≡ drop g.states lent.marks)
      × (drop g.states out.rows.blocks ≡ drop g.states lent.blocks)
      × (drop g.states out.rows.moves ≡ drop g.states lent.moves)

-- the whole: a refusal is that of the first condition met, alone, and leaves the rows untouched
pub record Means (f : List ℕ) (a : ℕ) (lent : Rows) (out : Outcome) : Type 0 where
  pub refused : (e : ℕ) → solve_fault f lent ≡ suc e → (r : Refusal) × (number r ≡ suc e) × (out ≡ record { answer = Err r; rows = lent })
  pub answered : solve_fault f lent ≡ 0 → Answered (game_of f) a lent out
