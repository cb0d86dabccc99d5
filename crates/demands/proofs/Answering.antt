-- What is handed back for an accepted file means what it is to mean.
use Prim.Native.Nat.{ℕ, ◌+◌, ◌<◌}
use mathlib.Core.Path.{◌≡◌, refl, sym, ap, ap₂, ◌∙◌, subst}
use mathlib.Core.Bool.{◌&&◌}
use mathlib.Core.Logic.{inl, inr}
use mathlib.Core.List.{List}
use lib.ListN.{drop}
use lib.Dec.{T, not_T, eqb, eqb→eq}
use Rattle.std.specs.Prelude.{Ok}
use Rattle.arena.specs.Sets.{Set, least}
use Rattle.arena.specs.Arena.{Side, one, two}
use Rattle.arena.specs.Win.{Goal}
use Rattle.arena.specs.Plan.{no_move, WinningPlan}
use Rattle.arena.proofs.Loops.{le_or_lt}
use Rattle.arena.proofs.Least.{least_cong}
use Rattle.arena.proofs.ByRow.{plan_strategy, same-row-wins}
use Rattle.game.specs.Rows.{fill}
use Rattle.game.specs.Game.{block_at, initials, targets, has_move, reblocked}
use Rattle.game.specs.Published.{goal_of, arena_of}
use Rattle.game.specs.Accepted.{AcceptedGame}
use Rattle.game.specs.declared.Game.{Game}
use Rattle.game.proofs.Rows.{fill_at, fill-drop}
use Rattle.blocks.specs.Blocks.{block_count}
use Rattle.blocks.proofs.Split.{count_cong}
use Rattle.runs.specs.Run.{lowest_first, sure_states, possible_states, Word, YES, NO, OPEN, word, named_start, Run, run, round}
use Rattle.runs.proofs.Rounds.{says, accepted_live, lowest_borders}
use Rattle.runs.proofs.Runs.{Ended, run-kept, run-states, run-initials, run-round, run-ended, splits_bound, never_open}
use Rattle.solver.specs.Rules.{mark, rule, planned}
use Rattle.solver.specs.Solve.{decision_of, said, verdict_of, Rows, written_rows}
use Rattle.solver.proofs.Rules.{won_by}
use Rattle.demands.specs.Winners.{Wins, Loses, SomeStartWins, PlanWins}
use Rattle.demands.specs.Meaning.{place, blocks_of, splits_of, Says, Marked, Answered}
use Rattle.demands.proofs.Verdicts.{sure-marked, mark-means, yes_means, no_means}
use Rattle.demands.proofs.PlanRows.{aim, ground, won_states, plan-wins}

-- the splits of a verdict are those it was said with
splits-said : (w : Word) (g : Game) (n : ℕ) → splits_of (Ok (said (decision_of w g) n)) ≡ n
splits-said YES g n = refl
splits-said NO g n = refl
splits-said OPEN g n = refl

module _ (g : Game) (ok : AcceptedGame g) (a : ℕ) (lent : Rows) where
  -- the run, its last game, and the rows that are handed back
  abbrev ran : Run
  ran = run lowest_first a g

  abbrev end : Game
  end = ran.last

  abbrev rows : Rows
  rows = written_rows end lent

  how : Ended a g ran
  how = run-ended lowest_first lowest_borders a g ok

  -- what holds of the last game, and does not speak of blocks, holds of the first
  back : (P : Game → Type 0) → P end → P (reblocked g end.block)
  back P = subst P (run-kept lowest_first a g)

  -- the first places of a row
  shown : (F : ℕ → ℕ) (row : List ℕ) (s : ℕ) → s < g.states → place (fill end.states F row) s ≡ F s
  shown F row s l = fill_at end.states F row s (rw (run-states lowest_first a g) l)

  -- the plan of side i, from states that the last round calls won by it
  shown_plan : (i : Side) → word end ≡ won_by i → (from : Set) → ((s : ℕ) → s < g.states → T (from s) → T (won_states end i s))
      → PlanWins g i (aim i (goal_of g.objective)) (ground i (targets g)) from (place rows.moves)
  unfolding arena_of has_move
  shown_plan i e from won =
      let goal = aim i (goal_of g.objective) in
      let of_last : WinningPlan (arena_of end) i (aim i (goal_of end.objective)) (ground i (targets end)) from (planned (won_by i) end) =
      plan-wins end how.accepted i from (λ s l. won s (rw (run-states lowest_first a g) at l)) in
      let plan = same-row-wins (arena_of g) i goal (ground i (targets g)) from (planned (won_by i) end)
      (back (λ h. WinningPlan (arena_of h) i (aim i (goal_of h.objective)) (ground i (targets h)) from (planned (won_by i) end)) of_last)
      (place rows.moves) (λ s l. shown (planned (word end) end) lent.moves s l ∙ ap (λ (w : Word). planned w end s) e) in
      (plan, plan_strategy (arena_of g) i goal (ground i (targets g)) from (place rows.moves) plan (accepted_live g ok))

  -- the named start is the lowest-numbered initial state that is marked sure
  named-lowest : named_start end ≡ least g.states (λ s. initials g s && eqb (place rows.marks s) 2)
  unfolding named_start
  named-lowest =
      ap (λ (n : ℕ). least n (λ s. initials end s && sure_states end s)) (run-states lowest_first a g)
      ∙ least_cong g.states _ _ (λ s l. ap₂ ◌&&◌ (ap (λ (X : Set). X s) (run-initials lowest_first a g))
      (sym (ap (λ m. eqb m 2) (shown (mark end) lent.marks s l) ∙ sure-marked end s)))

  verdict-means : (w : Word) → word end ≡ w → Says g a rows (Ok (said (decision_of w end) ran.splits))
  unfolding arena_of has_move rule
  verdict-means YES e =
      let h = says end YES e in
      let v = back (λ h. (named_start end < h.states) × T (initials h (named_start end)) × Wins h (named_start end)) (yes_means end how.accepted h) in
      record {
        start = (v.0, v.1);
        won = v.2;
        lowest = named-lowest;
        plan = shown_plan one e (λ s. eqb s (named_start end)) (λ s l q. rw (eqb→eq s (named_start end) q) h.2);
      }
  verdict-means NO e =
      let h = says end NO e in
      record {
        none = back (λ h. SomeStartWins h → ⊥) (no_means end how.accepted h);
        plan = shown_plan two e (initials g) (λ s l i. not_T (possible_states end s)
            (h s (rw (run-states lowest_first a g) l) (subst (λ (X : Set). T (X s)) (sym (run-initials lowest_first a g)) i)));
      }
  verdict-means OPEN e = record {
    used_up = how.used e;
    too_few = elim (le_or_lt g.states (blocks_of g + a)) [ inl h ↦ absurd (never_open lowest_first lowest_borders a g ok h e) | inr h ↦ h ];
    no_plan = λ s l. shown (planned (word end) end) lent.moves s l ∙ ap (λ (w : Word). planned w end s) e ∙ no_rule (goal_of end.objective) s;
  }
    where
      no_rule : (o : Goal) (s : ℕ) → rule OPEN o end s ≡ no_move
      no_rule o s = refl

  -- so are its marks
  marked : (s : ℕ) → s < g.states → Marked g s (mark end s)
  unfolding arena_of has_move
  marked s l =
      let m = mark-means end how.accepted s (rw (run-states lowest_first a g) l) in
      record { named = m.named; sure = λ e. back (λ h. Wins h s) (m.sure e); never = λ e. back (λ h. Loses h s) (m.never e) }

  pub answered : Answered g a lent (record { answer = Ok (verdict_of ran); rows = rows })
  unfolding block_count
  answered =
      let splits = splits-said (word end) end ran.splits in
      record {
        verdict = verdict-means (word end) refl;
        marks = λ s l. rw (shown (mark end) lent.marks s l) (marked s l);
        blocks = λ s l. shown (block_at end) lent.blocks s l
            ∙ ap (λ (h : Game). block_at h s) (run-round lowest_first a g ∙ ap (λ (k : ℕ). round lowest_first k g) (sym splits));
        counted =
            count_cong g.states _ _ (λ s l. ap (λ b. eqb b s) (shown (block_at end) lent.blocks s l))
            ∙ ap (λ (n : ℕ). block_count n (block_at end)) (sym (run-states lowest_first a g)) ∙ how.counted ∙ ap (λ n. blocks_of g + n) (sym splits);
        bounded = rw splits (splits_bound lowest_first lowest_borders a g ok);
        allowed = rw splits how.allowed;
        kept = (kept (mark end) lent.marks, kept (block_at end) lent.blocks, kept (planned (word end) end) lent.moves);
      }
    where
      kept : (F : ℕ → ℕ) (row : List ℕ) → drop g.states (fill end.states F row) ≡ drop g.states row
      kept F row = rw (run-states lowest_first a g) (fill-drop g.states F row)
