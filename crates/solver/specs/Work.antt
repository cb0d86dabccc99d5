-- What the rows at work hold, for the contracts of internal functions. Nothing that is promised is stated in these terms;
-- proofs/ has the laws that tie them to 01's words.
use Rattle.std.specs.Prelude.{ℕ, zero, suc, ◌≤◌, ◌<◌, ◌≡◌, Bool, not, ◌&&◌, cond, List, length, get_or, eqb, leb, ltb, T, Option, Some, None}
use Rattle.arena.specs.Sets.{compl, least, bit}
use Rattle.arena.specs.Arena.{Side, other, same}
use Rattle.arena.specs.Win.{Goal}
use Rattle.arena.specs.Passes.{rank}
use Rattle.arena.specs.Plan.{no_move}
use Rattle.game.specs.Limits.{max_states}
use Rattle.game.specs.Game.{state_no, marked, turn_at, marks_at, block_at, from_at, to_at, targets, known_turn}
use Rattle.game.specs.Published.{goal_of, arena_of, side_of}
use Rattle.game.specs.Accepted.{AcceptedGame}
use Rattle.game.specs.Ranged.{Ranged}
use Rattle.game.specs.declared.StateNo.{StateNo}
use Rattle.game.specs.declared.Game.{Game}
use Rattle.blocks.specs.Round.{inside_step}
use Rattle.blocks.specs.Hunt.{hunter, prey, lower, upper}
use Rattle.growth.specs.Stamp.{is_in}
use Rattle.chains.specs.Lent.{Holds, Keys}
use Rattle.rows.specs.RoundRows.{lower_pass}
use Rattle.runs.specs.Hunting.{hunting_side, prey_states, upper_states}
use Rattle.runs.specs.Run.{Run}
use Rattle.solver.specs.Rules.{advice}
use Rattle.solver.specs.declared.Decision.{Decision}
use Rattle.solver.specs.declared.Decision.TheVariants.{Yes, No, Open}
use Rattle.solver.specs.declared.Verdict.{Verdict}
use Rattle.solver.specs.Solve.{Rows, verdict_of, written_rows}

-- a mark by the passes of the side that hunts: side 1 if the objective is reach
unfoldable pub mark_no : ℕ → ℕ → ℕ → ℕ
mark_no objective lower upper = cond (eqb lower 0) (cond (eqb upper 0) (cond (eqb objective 1) 0 2) 1) (cond (eqb objective 1) 2 0)

-- a move that a plan may show, by the passes of its two states: to an earlier pass for one who hunts, and from outside to
-- outside for one who flees
unfoldable pub good_move : Bool → ℕ → ℕ → Bool
good_move chase own next = cond chase (not (eqb next 0) && ltb next own) (eqb own 0 && eqb next 0)

-- the lower of two numbers where the second is to be taken, and the first otherwise
unfoldable pub lower_of : ℕ → ℕ → Bool → ℕ
lower_of best to taken = cond taken (cond (ltb to best) to best) best

-- the lowest good move of state s among the first k moves, if s is the side's; `turn` and `row` say the turn and the pass of a
-- state, `from` and `to` what a move leaves and goes to
unfoldable pub lowest_good : ℕ → Bool → (ℕ → ℕ) → (ℕ → ℕ) → (ℕ → ℕ) → (ℕ → ℕ) → ℕ → ℕ → ℕ
lowest_good side chase turn from to row zero s = no_move
lowest_good side chase turn from to row (suc k) s =
    let best = lowest_good side chase turn from to row k s in
    cond (eqb (from k) s) (lower_of best (to k) (eqb (turn s) side && good_move chase (row s) (row (to k)))) best

-- the rows of a walk over m moves: the states of each move have their places
pub record Walk (n m : ℕ) (turn from to row : List ℕ) : Type 0 where
  pub few-states : n ≤ max_states
  pub froms : Keys n m from
  pub tos : Keys n m to
  pub turn-long : n ≤ length turn
  pub row-long : n ≤ length row

-- ## Rounds at work

-- the rows of a round that is worked out: the passes of what is surely brought about, and what may be
pub record Worked (g : Game) (low up : List ℕ) : Type 0 where
  pub ranged : Ranged g
  pub lower_long : g.states ≤ length low
  pub upper_long : g.states ≤ length up
  pub lower_is : (s : ℕ) → s < g.states → get_or low s 0 ≡ lower_pass g s
  pub upper_in : (s : ℕ) → s < g.states → is_in up s ≡ upper_states g s

-- the side that hunts and the rows of plain numbers that are lent when a run is over, and what they say of its last game
pub record Finished (g : Game) (side n m objective : ℕ) (turn starts from to block low up : List ℕ) : Type 0 where
  pub known : T (known_turn side)
  pub hunts : side_of side ≡ hunting_side g
  pub states_is : g.states ≡ n
  pub moves_is : g.moves ≡ m
  pub objective_is : g.objective ≡ objective
  pub turn_is : Holds n turn (turn_at g)
  pub starts_is : Holds n starts (marks_at g)
  pub from_is : Holds m from (from_at g)
  pub to_is : Holds m to (to_at g)
  pub block_is : Holds n block (block_at g)
  pub worked : Worked g low up

-- the lowest-numbered start with at least a mark, n where there is none: `starts` holds the marks of the file, `marks` those of the round
abbrev pub lowest_start : ℕ → List ℕ → List ℕ → ℕ → ℕ
lowest_start n starts marks wanted = least n (λ s. marked 1 (get_or starts s 0) && leb wanted (get_or marks s 0))

-- that start, if there is one
abbrev pub start_found : ℕ → List ℕ → List ℕ → ℕ → Option StateNo
start_found n starts marks wanted =
    cond (eqb (lowest_start n starts marks wanted) n) None (Some (state_no (lowest_start n starts marks wanted)))

-- what a round says by its marks
unfoldable pub decision_by : ℕ → List ℕ → List ℕ → Decision
decision_by n starts marks =
    cond (eqb (lowest_start n starts marks 1) n) No
    (cond (eqb (lowest_start n starts marks 2) n) Open (Yes (state_no (lowest_start n starts marks 2))))

-- ## The plan at work

-- what a plan is worked out from: the side that hunts, whose turn each state is, the moves, and the rows of the last round
pub record Planning (g : Game) (side m : ℕ) (turn from to low up : List ℕ) : Type 0 where
  pub known : T (known_turn side)
  pub hunts : side_of side ≡ hunting_side g
  pub moves_is : g.moves ≡ m
  pub turn_is : Holds g.states turn (turn_at g)
  pub from_is : Holds m from (from_at g)
  pub to_is : Holds m to (to_at g)
  pub worked : Worked g low up

module _ (g : Game) (o : Goal) where
  -- the rank of a state for the side that hunts: how many passes after the prey it entered
  abbrev pub chase_rank : ℕ → ℕ
  chase_rank t = rank g.states (inside_step (arena_of g) (block_at g) (hunter o)) (prey o (targets g)) t

  -- the rule of a winner who hunts: to an earlier pass
  unfoldable pub chase_rule : ℕ → ℕ
  chase_rule s =
      advice g (hunter o)
      (λ t. lower (arena_of g) (block_at g) (hunter o) (prey o (targets g)) t && not (prey o (targets g) t))
      (λ t. ltb (suc (chase_rank t)) (suc (chase_rank s))) s

  -- the rule of a winner who is hunted: to where the hunter may not bring the play
  unfoldable pub flee_rule : ℕ → ℕ
  flee_rule s =
      let safe = compl (upper (arena_of g) (block_at g) (hunter o) (prey o (targets g))) in
      advice g (other (hunter o)) safe safe s

-- the rule of the side that wins
abbrev pub winner_rule : Game → Side → ℕ → ℕ
winner_rule g i s = cond (same i (hunting_side g)) (chase_rule g (goal_of g.objective) s) (flee_rule g (goal_of g.objective) s)

-- ## The rows of a game, made in one place

-- a game taken apart: the side that hunts, the counts, and rows of plain numbers for turns, marks, moves, prey and blocks
pub record Apart (g : Game) (side n m objective : ℕ) (turn starts from to prey block : List ℕ) : Type 0 where
  pub accepted : AcceptedGame g
  pub known : T (known_turn side)
  pub hunts : side_of side ≡ hunting_side g
  pub states_is : g.states ≡ n
  pub moves_is : g.moves ≡ m
  pub objective_is : g.objective ≡ objective
  pub turn_is : Holds n turn (turn_at g)
  pub starts_is : Holds n starts (marks_at g)
  pub from_is : Holds m from (from_at g)
  pub to_is : Holds m to (to_at g)
  pub prey_is : Holds n prey (λ s. bit (prey_states g s))
  pub block_is : Holds n block (block_at g)

-- what is handed back of a run: its verdict, and the three rows, of which the first places are written
abbrev pub HandedBack : Run → Rows → Verdict → Rows → Type 0
HandedBack r lent verdict rows = (verdict ≡ verdict_of r) × (rows ≡ written_rows r.last lent)
