-- A winning row of moves as a strategy in the published sense.
use Prim.Native.Nat.{ℕ, ◌<◌}
use mathlib.Core.Path.{◌≡◌, sym, ◌∙◌}
use mathlib.Core.Bool.{cond}
use lib.Dec.{T, eqb}
use borrow.Author.Tests.{eq-eqb, ne_eqb}
use Rattle.arena.specs.Sets.{Set, least}
use Rattle.arena.specs.Arena.{Side, Arena, Live}
use Rattle.arena.specs.Play.{Strategy, Play, past, outcome}
use Rattle.arena.specs.Win.{Goal, to_reach, to_stay, objective}
use Rattle.arena.specs.Plan.{no_move, Advised, Obeys, Met, WinningPlan, ByRow, StrategyByRow}
use Rattle.arena.proofs.Tests.{cond_ind}
use Rattle.arena.proofs.Sets.{some_intro, least-some}
use Rattle.arena.proofs.Plays.{outcome-start, outcome-play, outcome-mine}

-- ## The strategy of a row

module _ (g : Arena) (live : Live g) (i : Side) (row : ℕ → ℕ)
    (legal : (s : ℕ) → s < g.size → (row s ≡ no_move → ⊥) → Advised g s (row s)) where
  -- the strategy that takes the move of the row, and where there is none its lowest move
  unfoldable pub row_strategy : Strategy g i
  row_strategy = record {
    next = λ h s. cond (eqb (row s) no_move) (least g.size (g.move s)) (row s);
    legal = λ h s l m. cond_ind (λ r. (r < g.size) × T (g.move s r)) (eqb (row s) no_move) _ _
        (λ _. let w = live s l in least-some g.size (g.move s) (some_intro g.size (g.move s) w.0 w.1 w.2))
        (λ n. let r = legal s l (λ e. n (rw (eq-eqb (row s) no_move e) tt)) in (r.state, r.legal));
  }

  -- it takes the row's moves
  pub row_strategy_takes : ByRow g i row row_strategy
  unfolding row_strategy
  row_strategy_takes h s l n = rw (ne_eqb (row s) no_move n)

-- what is met in time is met
pub met : (n : ℕ) (o : Goal) (A : Set) (p : ℕ → ℕ) → Met n o A p → objective o A p
met n to_reach A p h = (h.0, h.2)
met n to_stay A p h = h

-- ## What it does to every outcome

module _ (g : Arena) (i : Side) (o : Goal) (A from : Set) (row : ℕ → ℕ) (plan : WinningPlan g i o A from row) where
  -- a winning plan is a winning strategy
  pub plan_strategy : Live g → StrategyByRow g i o A from row
  plan_strategy live = (
    row_strategy g live i row plan.legal,
    row_strategy_takes g live i row plan.legal,
    λ s l h τ.
        let σ = row_strategy g live i row plan.legal in
        let p = outcome g i σ τ s in
        let pl = outcome-play g i σ τ s l in
        met g.size o A p (plan.wins p pl (rw (outcome-start g i σ τ s) h)
        (λ j m n. outcome-mine g i σ τ s j m ∙ row_strategy_takes g live i row plan.legal (past p j) (p j) (pl.inside j) n)),
  )

  -- a row that holds the same for every state wins as well
  pub same-row-wins : (row' : ℕ → ℕ) → ((s : ℕ) → s < g.size → row' s ≡ row s) → WinningPlan g i o A from row'
  same-row-wins row' e = record {
    wins = λ p pl s ob. plan.wins p pl s (obeys p pl ob);
    advises = λ p pl s ob k d m. rw (e (p k) (pl.inside k)) (plan.advises p pl s (obeys p pl ob) k d m);
    legal = λ s l. rw (e s l) (plan.legal s l);
  }
    where
      obeys : (p : ℕ → ℕ) → Play g p → Obeys g i row' p → Obeys g i row p
      obeys p pl ob j m n = let q = e (p j) (pl.inside j) in ob j m (λ x. n (sym q ∙ x)) ∙ q
