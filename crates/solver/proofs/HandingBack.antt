-- The ends of the solver: refusals, and the rows that are written.
use mathlib.Core.Path.{◌≡◌, refl, sym, ap, subst, ◌∙◌}
use mathlib.Core.Bool.{◌&&◌}
use mathlib.Core.List.{List}
use Prim.Native.Nat.{ℕ, zero, suc, ◌≤◌, ◌<◌}
use native.Mathlib.Omega.{arith}
use lib.ListN.{length, get_or}
use lib.Dec.{leb}
use borrow.Author.Tests.{le-leb, lt-leb}
use Rattle.game.specs.Limits.{max_states}
use Rattle.game.specs.Rows.{fill, zeros}
use Rattle.game.specs.declared.Game.{Game}
use Rattle.game.proofs.Rows.{fill_at, fill_cong}
use Rattle.game.specs.Game.{turn_at}
use Rattle.std.specs.Prelude.{Ok, Err}
use Rattle.file.specs.declared.refusal.Refusal.{Refusal}
use Rattle.file.specs.declared.refusal.Refusal.TheVariants.{ShortRow}
use Rattle.file.specs.Number.{number, refused}
use Rattle.file.specs.Fault.{◌then◌, refused_or, answered, kept_or}
use Rattle.file.specs.Refusals.{refusal}
use Rattle.file.proofs.Numbers.{refused_number, number_range}
use Rattle.arena.proofs.Choices.{both, first-not, second_not}
use Rattle.file.proofs.Laws.{unless-last, unless-end}
use Rattle.chains.specs.Lent.{Holds}
use Rattle.runs.specs.Run.{word}
use Rattle.solver.specs.Rules.{mark}
use Rattle.solver.specs.Solve.{decision_of, run_of, verdict_of, answer_to, Rows, written_rows, short_row, solve_fault, Outcome, solved}
use Rattle.solver.specs.Work.{mark_no, Finished, Planning, decision_by, HandedBack}
use Rattle.solver.specs.declared.Verdict.{Verdict}
use Rattle.solver.proofs.Marks.{mark_is, decision_is}

-- ## Refusals

-- ## Refusals

module _ (lent : Rows) where
  -- a row is too short
  pub short_marks : length lent.marks < max_states → 1 ≡ short_row lent
  unfolding short_row
  short_marks h = unless-last _ 1 (first-not _ _ (first-not _ _ (lt-leb max_states (length lent.marks) h)))

  pub short_blocks : length lent.blocks < max_states → 1 ≡ short_row lent
  unfolding short_row
  short_blocks h = unless-last _ 1 (first-not _ _ (second_not (leb max_states (length lent.marks)) _ (lt-leb max_states (length lent.blocks) h)))

  pub short_moves : length lent.moves < max_states → 1 ≡ short_row lent
  unfolding short_row
  short_moves h =
      unless-last _ 1 (second_not (leb max_states (length lent.marks) && leb max_states (length lent.blocks)) _ (lt-leb max_states (length lent.moves) h))

  -- all rows are long enough
  pub long-rows : max_states ≤ length lent.marks → max_states ≤ length lent.blocks → max_states ≤ length lent.moves → 0 ≡ short_row lent
  unfolding short_row
  long-rows a b c =
      unless-end _ 1 (both _ _ (both _ _ (le-leb max_states (length lent.marks) a) (le-leb max_states (length lent.blocks) b)) (le-leb max_states (length lent.moves) c))

-- a refusal is given alone, and all rows keep their content; otherwise what was worked out is handed back
pub solved_is : (f : List ℕ) (allowance : ℕ) (lent : Rows)
    → solved f allowance lent
    ≡ refused_or (λ e. record { answer = Err (refused e); rows = lent }) (solve_fault f lent)
    (record { answer = Ok (verdict_of (run_of f allowance)); rows = written_rows (run_of f allowance).last lent })
unfolding solved solve_fault answer_to ◌then◌
solved_is f allowance lent = go (short_row lent) (refusal f)
  where
    go : (short file : ℕ) → ◌≡◌ {A = Outcome}
        (record { answer = refused_or (λ e. Err (refused e)) short (answered file (verdict_of (run_of f allowance))); rows = kept_or lent (short then file) (written_rows (run_of f allowance).last lent) })
        (refused_or (λ e. record { answer = Err (refused e); rows = lent }) (short then file) (record { answer = Ok (verdict_of (run_of f allowance)); rows = written_rows (run_of f allowance).last lent }))
    go zero zero = refl
    go zero (suc e) = refl
    go (suc e) file = refl

module _ (f : List ℕ) (allowance : ℕ) (lent : Rows) where
  -- a row is too short: that is told, whatever the file
  pub refused-row : 1 ≡ short_row lent → record { answer = Err ShortRow; rows = lent } ≡ solved f allowance lent
  unfolding solve_fault ◌then◌
  refused-row short = rw (solved_is f allowance lent, ← short)

  -- the file is refused
  pub refused-file : 0 ≡ short_row lent → (r : Refusal) → number r ≡ refusal f → record { answer = Err r; rows = lent } ≡ solved f allowance lent
  unfolding solve_fault ◌then◌
  refused-file long r p = rw (solved_is f allowance lent, ← long, ← p) (go (number r) (number_range r).0 (refused_number r))
    where
      done : Outcome
      done = record { answer = Ok (verdict_of (run_of f allowance)); rows = written_rows (run_of f allowance).last lent }

      go : (e : ℕ) → 1 ≤ e → refused e ≡ r → record { answer = Err r; rows = lent } ≡ refused_or (λ e. record { answer = Err (refused e); rows = lent }) e done
      go zero low same = absurd (omega arith)
      go (suc e) low same = ap (λ (x : Refusal). record { answer = Err x; rows = lent }) (sym same)

  -- neither: what was worked out is handed back
  pub handed : 0 ≡ short_row lent → refusal f ≡ 0 → {v : Verdict} {rows : Rows} → HandedBack (run_of f allowance) lent v rows
      → record { answer = Ok v; rows = rows } ≡ solved f allowance lent
  unfolding solve_fault ◌then◌
  handed long taken back = rw (solved_is f allowance lent, ← long, taken, back.0, back.1)

-- ## What is handed back

module _ {g : Game} {side n m objective : ℕ} {turn starts from to block low up : List ℕ} (f : Finished g side n m objective turn starts from to block low up) where
  -- what the plan is worked out from
  pub planning : Planning g side m turn from to low up
  planning = record {
    known = f.known;
    hunts = f.hunts;
    moves_is = f.moves_is;
    turn_is = subst (λ (k : ℕ). Holds k turn (turn_at g)) (sym f.states_is) f.turn_is;
    from_is = f.from_is;
    to_is = f.to_is;
    worked = f.worked;
  }

  -- the places of the marks that were worked out
  pub marks_are : (marks : List ℕ) → marks ≡ fill n (λ s. mark_no objective (get_or low s 0) (get_or up s 0)) (zeros max_states) → (s : ℕ) → s < g.states → get_or marks s 0 ≡ mark g s
  marks_are marks e s l =
      ap (λ (r : List ℕ). get_or r s 0) e ∙ fill_at n _ (zeros max_states) s (omega (arith, f.states_is)) ∙ mark_is f.worked objective f.objective_is s l

  -- what is decided by marks is what the game's word says
  pub decided_word : (marks : List ℕ) → ((s : ℕ) → s < g.states → get_or marks s 0 ≡ mark g s) → decision_by n starts marks ≡ decision_of (word g) g
  decided_word marks are =
      subst (λ (k : ℕ). decision_by k starts marks ≡ decision_of (word g) g) f.states_is
      (decision_is g starts marks (λ s l. f.starts_is.cell s (omega (arith, f.states_is))) are)

  -- a lent row, written from a row whose places are F's
  pub written : (F : ℕ → ℕ) (values row out : List ℕ) → ((s : ℕ) → s < g.states → get_or values s 0 ≡ F s)
      → out ≡ fill n (λ s. get_or values s 0) row → out ≡ fill g.states F row
  written F values row out places e =
      e ∙ fill_cong n (λ s. get_or values s 0) F row (λ s l. places s (omega (arith, f.states_is))) ∙ ap (λ (k : ℕ). fill k F row) (sym f.states_is)
