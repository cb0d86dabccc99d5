-- 01, 'What is handed back': the answer to a file, and what is handed back in three lent rows.
use Rattle.std.specs.Prelude.{ℕ, ◌&&◌, List, length, leb, Result, Err}
use Rattle.game.specs.Limits.{max_states}
use Rattle.game.specs.Rows.{fill}
use Rattle.game.specs.Game.{state_no, block_at}
use Rattle.game.specs.declared.Game.{Game}
use Rattle.file.specs.declared.refusal.Refusal.{Refusal}
use Rattle.file.specs.Number.{refused}
use Rattle.file.specs.Fault.{unless, ◌then◌, refused_or, answered, kept_or}
use Rattle.file.specs.Refusals.{refusal}
use Rattle.decoding.specs.Decode.{game_of}
use Rattle.runs.specs.Run.{lowest_first, Word, YES, NO, OPEN, word, named_start, Run, run}
use Rattle.solver.specs.Rules.{mark, planned}
use Rattle.solver.specs.declared.Decision.{Decision}
use Rattle.solver.specs.declared.Decision.TheVariants.{Yes, No, Open}
use Rattle.solver.specs.declared.Verdict.{Verdict}
use Rattle.solver.specs.declared.Verdict.TheVariants.{Yes as VerdictYes, No as VerdictNo, Open as VerdictOpen}

-- ## The answer, which knows no rows

-- 01, 'What is handed back': YES with the lowest-numbered sure initial state; NO or OPEN
abbrev pub decision_of : Word → Game → Decision
decision_of YES g = Yes (state_no (named_start g))
decision_of NO g = No
decision_of OPEN g = Open

-- 01, 'What is handed back': each with the splits
abbrev pub said : Decision → ℕ → Verdict
said (Yes s) splits = VerdictYes s splits
said No splits = VerdictNo splits
said Open splits = VerdictOpen splits

-- 01, 'One round': the run of the game of a file
abbrev pub run_of : List ℕ → ℕ → Run
run_of f allowance = run lowest_first allowance (game_of f)

-- 01, 'What is handed back': the verdict of a run
abbrev pub verdict_of : Run → Verdict
verdict_of r = said (decision_of (word r.last) r.last) r.splits

-- 01, 'Refusals in their order': refusals 2 to 11, or the verdict
unfoldable pub answer_to : List ℕ → ℕ → Result Verdict Refusal
answer_to f allowance = answered (refusal f) (verdict_of (run_of f allowance))

-- ## The rows

-- 01, 'What is handed back': three lent rows
pub record Rows : Type 0 where
  pub marks : List ℕ
  pub blocks : List ℕ
  pub moves : List ℕ

-- 01, 'What is handed back': the first places, one per state, are written; the rest keep their content
abbrev pub written_rows : Game → Rows → Rows
written_rows g lent =
    record {
      marks = fill g.states (mark g) lent.marks;
      blocks = fill g.states (block_at g) lent.blocks;
      moves = fill g.states (planned (word g) g) lent.moves;
    }

-- 01, 'Refusals in their order': 1 if a lent row has fewer than 512 places
unfoldable pub short_row : Rows → ℕ
short_row lent = unless (leb max_states (length lent.marks) && leb max_states (length lent.blocks) && leb max_states (length lent.moves)) 1

-- 01, 'Refusals in their order': when solving, 1 is tested before everything
unfoldable pub solve_fault : List ℕ → Rows → ℕ
solve_fault f lent = short_row lent then refusal f

-- ## Both together

-- what a call of the solver hands back: its answer, and the rows
pub record Outcome : Type 0 where
  pub answer : Result Verdict Refusal
  pub rows : Rows

-- 01, 'What is handed back' and 'Refusals in their order': the outcome of a file, an allowance and three lent rows
unfoldable pub solved : List ℕ → ℕ → Rows → Outcome
solved f allowance lent =
    record {
      answer = refused_or (λ e. Err (refused e)) (short_row lent) (answer_to f allowance);
      rows = kept_or lent (solve_fault f lent) (written_rows (run_of f allowance).last lent);
    }
