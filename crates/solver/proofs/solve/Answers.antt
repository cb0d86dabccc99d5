-- `solve` meets its contract.
use mathlib.Core.Path.{◌≡◌, sym}
use borrow.Author.Rules.{rules}
use mathlib.Core.List.{List}
use Prim.Native.Nat.{ℕ}
use Rattle.std.specs.Prelude.{Result, Err}
use Rattle.file.specs.declared.refusal.Refusal.{Refusal}
use Rattle.solver.specs.Solve.{Rows, Outcome}
use Rattle.solver.specs.Grouped.{rows_of}
use Rattle.solver.specs.declared.Verdict.{Verdict}
use Rattle.solver.proofs.HandingBack.{short_marks, short_blocks, short_moves, long-rows, refused-row, refused-file, handed}
use Rattle.solver.proofs.solve.Goals.{then-marks-lt-MAX_STATES-via-then-marks-lt-MAX_STATES, then-marks-lt-MAX_STATES-via-else-marks-lt-MAX_STATES+then-blocks-lt-MAX_STATES, then-marks-lt-MAX_STATES-via-else-marks-lt-MAX_STATES+else-blocks-lt-MAX_STATES+then-moves-lt-MAX_STATES}
use Rattle.solver.proofs.solve.Goals as goal

pub returns-then-marks-lt-MAX_STATES : goal.returns-then-marks-lt-MAX_STATES
returns-then-marks-lt-MAX_STATES c = refused-row _ _ _ (elim c.then-marks-lt-MAX_STATES.branch [
  | then-marks-lt-MAX_STATES-via-then-marks-lt-MAX_STATES w ↦ short_marks _ w.if-marks-lt-MAX_STATES.true
  | then-marks-lt-MAX_STATES-via-else-marks-lt-MAX_STATES+then-blocks-lt-MAX_STATES w ↦ short_blocks _ w.if-blocks-lt-MAX_STATES.true
  | then-marks-lt-MAX_STATES-via-else-marks-lt-MAX_STATES+else-blocks-lt-MAX_STATES+then-moves-lt-MAX_STATES w ↦ short_moves _ w.if-moves-lt-MAX_STATES.true
])

pub returns-in_err-first_refusal : goal.returns-in_err-first_refusal
returns-in_err-first_refusal c =
    let given : c.from_residual.result ≡ Err c.in_err-first_refusal.field-0.0 = search rules in
    let long = long-rows _ c.if-marks-lt-MAX_STATES.false c.if-blocks-lt-MAX_STATES.false c.if-moves-lt-MAX_STATES.false in
    rw given (refused-file _ _ _ long _ c.in_err-first_refusal.ensures)

-- rows that hold the same
same-rows : {answer : Result Verdict Refusal} {marks blocks moves : List ℕ} {rows : Rows} {s : Outcome} → marks ≡ rows.marks → blocks ≡ rows.blocks → moves ≡ rows.moves
    → record { answer = answer; rows = rows } ≡ s → record { answer = answer; rows = record { marks = marks; blocks = blocks; moves = moves } } ≡ s
same-rows p q r e = rw (p, q, r) e

pub returns : goal.returns
returns c =
    same-rows {rows = rows_of c.solve_game.new.rows} (search rules) (search rules) (search rules)
    (handed _ _ _ (long-rows _ c.if-marks-lt-MAX_STATES.false c.if-blocks-lt-MAX_STATES.false c.if-moves-lt-MAX_STATES.false)
    (sym c.in_ok-first_refusal.ensures) c.solve_game.ensures.back)
