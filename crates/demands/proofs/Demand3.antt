-- Demand 3 holds of every accepted file and the file of the exchanged game.
use Prim.Native.Nat.{ℕ, ◌<◌}
use mathlib.Core.Path.{◌≡◌, refl, sym, ap, ◌∙◌, subst}
use mathlib.Core.List.{List}
use lib.Dec.{T}
use Rattle.std.specs.Prelude.{Result, Ok, Err}
use Rattle.arena.specs.Sets.{Set}
use Rattle.game.specs.Rows.{fill}
use Rattle.game.specs.Game.{state_no, block_at}
use Rattle.game.specs.Accepted.{AcceptedGame}
use Rattle.game.specs.declared.Game.{Game}
use Rattle.game.proofs.Rows.{fill_at}
use Rattle.file.specs.declared.refusal.Refusal.{Refusal}
use Rattle.file.specs.Fault.{◌then◌}
use Rattle.file.specs.Refusals.{refusal}
use Rattle.decoding.specs.Decode.{game_of}
use Rattle.decoding.proofs.Accepted.{accepted-game}
use Rattle.exchange.specs.Exchange.{exchanged_game, exchanged_file}
use Rattle.exchange.proofs.Games.{exchanged-initials, exchanged-targets}
use Rattle.exchange.proofs.ExchangedFiles.{exchanged-accepted, exchanged-game}
use Rattle.runs.specs.Run.{lowest_first, Word, YES, NO, OPEN, word, Run, run, round, named_start}
use Rattle.runs.proofs.Rounds.{says, lowest_borders}
use Rattle.runs.proofs.Runs.{run-states, run-initials, round-accepted, run-ended}
use Rattle.solver.specs.Rules.{mark, planned}
use Rattle.solver.specs.Solve.{decision_of, said, run_of, verdict_of, Rows, written_rows, short_row, solve_fault, Outcome, solved}
use Rattle.solver.specs.declared.Verdict.{Verdict}
use Rattle.solver.specs.declared.Verdict.TheVariants.{Yes, No, Open}
use Rattle.demands.specs.Meaning.{place, splits_of}
use Rattle.demands.specs.Trades.{SingleStart, trade_mark, trade_run, trade_verdict, SameRound}
use Rattle.demands.specs.Demand3.{SidesExchanged, Demand3}
use Rattle.demands.proofs.Demand2.{outcome_is}
use Rattle.demands.proofs.Exchanged.{trade_word, turns_flipped, goal_opposite, known-exchanged, border-exchanged, mark-exchanged, plan-exchanged}
use Rattle.demands.proofs.ExchangedRun.{wins-exchanged, round-exchanged, exchanged_single, word-exchanged, run-exchanged}

-- ## One game and its exchange

module _ (g : Game) (ok : AcceptedGame g) where
  -- its sides are exchanged
  sides_exchanged : SidesExchanged g (exchanged_game g)
  unfolding exchanged_game
  sides_exchanged = record {
    same-states = refl;
    turns = turns_flipped g;
    target = exchanged-targets g ok;
    goal = goal_opposite g;
    starts = exchanged-initials g ok;
    blocks = refl;
    moves = (refl, refl, refl);
  }

  -- it does what the game does
  same-round : SameRound g (exchanged_game g)
  unfolding exchanged_game
  same-round = record { blocks = refl; border = border-exchanged g ok; parts = known-exchanged g ok; marks = mark-exchanged g ok }

  module _ (start : ℕ) (single : SingleStart g start) where
    -- the single start stays the single start to the end of a run
    run_single : (a : ℕ) → SingleStart (run lowest_first a g).last start
    run_single a = record {
      state = rw (run-states lowest_first a g) single.state;
      chosen = subst (λ (X : Set). T (X start)) (sym (run-initials lowest_first a g)) single.chosen;
      only = λ s l i. single.only s (rw (run-states lowest_first a g) at l) (subst (λ (X : Set). T (X s)) (run-initials lowest_first a g) i);
    }

    -- what is said of it is what is said of the game, traded
    said_traded : (n : ℕ) → Ok (said (decision_of (word (exchanged_game g)) (exchanged_game g)) n) ≡ trade_verdict start (Ok (said (decision_of (word g) g) n))
    said_traded n = ap (λ (w : Word). Ok (said (decision_of w (exchanged_game g)) n)) (word-exchanged g ok start single) ∙ go (word g) refl
      where
        named : word g ≡ NO → named_start (exchanged_game g) ≡ start
        named e =
            let h = says (exchanged_game g) YES (word-exchanged g ok start single ∙ ap trade_word e) in
            (exchanged_single g ok start single).only (named_start (exchanged_game g)) h.0 h.1

        go : (w : Word) → word g ≡ w → Ok (said (decision_of (trade_word w) (exchanged_game g)) n) ≡ trade_verdict start (Ok (said (decision_of w g) n))
        go YES e = refl
        go NO e = ap (λ s. Ok (Yes (state_no s) n)) (named e)
        go OPEN e = refl

-- a traded verdict has as many splits
traded_splits : (start : ℕ) (v : Result Verdict Refusal) → splits_of (trade_verdict start v) ≡ splits_of v
traded_splits start (Ok (Yes s n)) = refl
traded_splits start (Ok (No n)) = refl
traded_splits start (Ok (Open n)) = refl
traded_splits start (Err r) = refl

-- ## Two files

module _ (f h : List ℕ) (taken : refusal f ≡ 0) (same : game_of h ≡ exchanged_game (game_of f)) (a : ℕ) where
  ok : AcceptedGame (game_of f)
  ok = accepted-game f taken

  -- what a call hands back, from rows that are long enough
  abbrev handed : List ℕ → Rows → Outcome
  handed f lent = record { answer = Ok (verdict_of (run_of f a)); rows = written_rows (run_of f a).last lent }

  each_round : (k : ℕ) → SameRound (round lowest_first k (game_of f)) (round lowest_first k (game_of h))
  each_round k =
      subst (SameRound (round lowest_first k (game_of f))) (sym (ap (round lowest_first k) same ∙ round-exchanged lowest_first border-exchanged k (game_of f) ok))
      (same-round (round lowest_first k (game_of f)) (round-accepted lowest_first k (game_of f) ok))

  module _ (start : ℕ) (single : SingleStart (game_of f) start) where
    same-run : run_of h a ≡ trade_run (run_of f a)
    same-run = ap (run lowest_first a) same ∙ run-exchanged lowest_first border-exchanged a (game_of f) ok start single

    last_ok : AcceptedGame (run_of f a).last
    last_ok = (run-ended lowest_first lowest_borders a (game_of f) ok).accepted

    verdict_traded : Ok (verdict_of (run_of h a)) ≡ trade_verdict start (Ok (verdict_of (run_of f a)))
    verdict_traded = ap (λ (r : Run). Ok (verdict_of r)) same-run ∙ said_traded (run_of f a).last last_ok start (run_single (game_of f) ok start single a) (run_of f a).splits

    -- places of rows that hold F of the one last game and F' of the other
    both_shown : (F : Game → ℕ → ℕ) (G : ℕ → ℕ) (row row' : List ℕ) (s : ℕ) → s < (game_of f).states
        → F (exchanged_game (run_of f a).last) s ≡ G (F (run_of f a).last s)
        → place (fill (run_of h a).last.states (F (run_of h a).last) row') s ≡ G (place (fill (run_of f a).last.states (F (run_of f a).last) row) s)
    unfolding exchanged_game
    both_shown F G row row' s l e =
        let k : s < (run_of f a).last.states = rw (run-states lowest_first a (game_of f)) l in
        ap (λ (r : Run). place (fill r.last.states (F r.last) row') s) same-run
        ∙ fill_at (run_of f a).last.states (F (exchanged_game (run_of f a).last)) row' s k ∙ e
        ∙ ap G (sym (fill_at (run_of f a).last.states (F (run_of f a).last) row s k))

    last-state : (s : ℕ) → s < (game_of f).states → s < (run_of f a).last.states
    last-state s l = rw (run-states lowest_first a (game_of f)) l

    moves-same : (s : ℕ) → s < (game_of f).states
        → planned (word (exchanged_game (run_of f a).last)) (exchanged_game (run_of f a).last) s ≡ planned (word (run_of f a).last) (run_of f a).last s
    moves-same s l =
        let g = (run_of f a).last in
        ap (λ (w : Word). planned w (exchanged_game g) s) (word-exchanged g last_ok start (run_single (game_of f) ok start single a))
        ∙ plan-exchanged g last_ok (word g) s (last-state s l)

  traded : refusal h ≡ 0 → (lent lent' : Rows) → Demand3 f a (handed f lent) h (handed h lent')
  unfolding exchanged_game
  traded accepted lent lent' = record {
    accepted = accepted;
    exchanged = subst (SidesExchanged (game_of f)) (sym same) (sides_exchanged (game_of f) ok);
    winners = λ s l. rw same (wins-exchanged (game_of f) ok s l);
    same_rounds = each_round;
    same-splits = λ start single. (same-run start single, ap splits_of (verdict_traded start single) ∙ traded_splits start (Ok (verdict_of (run_of f a))));
    same_blocks = λ start single s l. both_shown start single block_at (λ b. b) lent.blocks lent'.blocks s l refl;
    same-plan = λ start single s l. both_shown start single (λ g. planned (word g) g) (λ m. m) lent.moves lent'.moves s l (moves-same start single s l);
    verdict_traded = verdict_traded;
    marks_traded = λ start single s l.
        both_shown start single mark trade_mark lent.marks lent'.marks s l (mark-exchanged (run_of f a).last (last_ok start single) s (last-state start single s l));
  }

-- rows that are long enough, and an accepted file: there is no fault
no_fault : (f : List ℕ) (lent : Rows) → refusal f ≡ 0 → short_row lent ≡ 0 → solve_fault f lent ≡ 0
unfolding solve_fault ◌then◌
no_fault f lent taken long = rw (long, taken)

pub demand3 : (f : List ℕ) → refusal f ≡ 0 → (a : ℕ) (lent lent' : Rows) → short_row lent ≡ 0 → short_row lent' ≡ 0
    → Demand3 f a (solved f a lent) (exchanged_file f) (solved (exchanged_file f) a lent')
demand3 f taken a lent lent' long long' =
    let h = exchanged_file f in
    let accepted = exchanged-accepted f taken in
    rw (outcome_is f a lent 0 (no_fault f lent taken long), outcome_is h a lent' 0 (no_fault h lent' accepted long'))
    (traded f h taken (exchanged-game f taken) a accepted lent lent')
