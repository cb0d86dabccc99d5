-- Laws of plays: the outcome of two strategies, and a strategy that looks at the present state only.
use Prim.Native.Nat.{ℕ, zero, suc, ◌<◌}
use mathlib.Core.Path.{◌≡◌, refl, sym, ap, ap₂, ◌∙◌, fun_ext}
use mathlib.Core.Bool.{◌&&◌, cond}
use mathlib.Core.Logic.{◌⊎◌, inl, inr}
use mathlib.Core.List.{◌∷◌}
use lib.Dec.{T, T_not, not_T}
use Rattle.arena.specs.Sets.{Set, some, least}
use Rattle.arena.specs.Arena.{Side, other, Arena, mine, Live, forced}
use Rattle.arena.specs.Play.{Strategy, Play, past, Follows, trace, outcome}
use Rattle.arena.proofs.Tests.{dec_T, and_l, and_r, cond_ind, cond_yes, cond_no}
use Rattle.arena.proofs.Sets.{some_intro, meets_in, least-some}
use Rattle.arena.proofs.Forced.{mine-other, Can, forced-out}

-- ## The outcome of two strategies

-- each state is side i's or its opponent's
pub mine_cases : (g : Arena) (i : Side) (s : ℕ) → T (mine g i s) ⊎ T (mine g (other i) s)
mine_cases g i s = elim (dec_T (mine g i s)) [ inl m ↦ inl m | inr o ↦ inr (rw (mine-other g i s) (not_T (mine g i s) o)) ]

-- no state is both side i's and its opponent's
pub mine_once : (g : Arena) (i : Side) (s : ℕ) → T (mine g (other i) s) → T (mine g i s) → ⊥
mine_once g i s h = T_not (mine g i s) (rw (mine-other g i s) at h)

module _ (g : Arena) (i : Side) (σ : Strategy g i) (τ : Strategy g (other i)) (s : ℕ) where
  -- the outcome begins at its start
  pub outcome-start : outcome g i σ τ s 0 ≡ s
  unfolding outcome
  outcome-start = refl

  -- the history that the trace keeps is the history of the outcome
  past-trace : (k : ℕ) → past (outcome g i σ τ s) k ≡ (trace g i σ τ s k).0
  unfolding past outcome
  past-trace zero = refl
  past-trace (suc k) = ap (λ h. (trace g i σ τ s k).1 ∷ h) (past-trace k)

  -- the outcome follows side i's strategy
  pub outcome-mine : Follows g i σ (outcome g i σ τ s)
  unfolding outcome
  outcome-mine k h = rw (past-trace k) (cond_yes (mine g i (trace g i σ τ s k).1) _ _ h)

  -- the outcome follows its opponent's strategy
  pub outcome_theirs : Follows g (other i) τ (outcome g i σ τ s)
  unfolding outcome
  outcome_theirs k h = rw (past-trace k) (cond_no (mine g i (trace g i σ τ s k).1) _ _ (mine_once g i (trace g i σ τ s k).1 h))

  -- from a state of the game the outcome goes on by a move of the game
  outcome_step : (k : ℕ) → outcome g i σ τ s k < g.size
      → (outcome g i σ τ s (suc k) < g.size) × T (g.move (outcome g i σ τ s k) (outcome g i σ τ s (suc k)))
  outcome_step k h = elim (mine_cases g i (outcome g i σ τ s k)) [
    | inl m ↦ rw (outcome-mine k m) (σ.legal _ _ h m)
    | inr m ↦ rw (outcome_theirs k m) (τ.legal _ _ h m)
  ]

  -- the outcome from a state of the game stays among its states
  outcome-inside : s < g.size → (k : ℕ) → outcome g i σ τ s k < g.size
  unfolding outcome
  outcome-inside l zero = l
  outcome-inside l (suc k) = (outcome_step k (outcome-inside l k)).0

  -- the outcome from a state of the game is a play
  pub outcome-play : s < g.size → Play g (outcome g i σ τ s)
  outcome-play l = record { inside = outcome-inside l; moves = λ k. (outcome_step k (outcome-inside l k)).1 }

  -- a sequence from s that follows both strategies is their outcome: definition 5's 'uniquely determined'
  pub outcome_unique : (p : ℕ → ℕ) → p 0 ≡ s → Follows g i σ p → Follows g (other i) τ p → p ≡ outcome g i σ τ s
  unfolding outcome past
  outcome_unique p e fo fo' = fun_ext (λ k. (agree k).1)
    where
      agree : (k : ℕ) → (past p k ≡ (trace g i σ τ s k).0) × (p k ≡ (trace g i σ τ s k).1)
      agree zero = (refl, e)
      agree (suc k) =
          let h = agree k in (
            ap₂ ◌∷◌ h.1 h.0,
            elim (mine_cases g i (p k)) [
              | inl m ↦ fo k m ∙ rw (h.0, h.1) (sym (cond_yes (mine g i (trace g i σ τ s k).1) _ _ (rw h.1 at m)))
              | inr m ↦ fo' k m ∙ rw (h.0, h.1) (sym (cond_no (mine g i (trace g i σ τ s k).1) _ _ (mine_once g i (trace g i σ τ s k).1 (rw h.1 at m))))
            ],
          )

-- ## The lowest move into a set

-- the moves of s into X
abbrev pub into : Arena → Set → ℕ → Set
into g X s t = g.move s t && X t

-- the lowest move of s into X; where there is none, its lowest move
unfoldable pub best : Arena → Set → ℕ → ℕ
best g X s = cond (some g.size (into g X s)) (least g.size (into g X s)) (least g.size (g.move s))

-- where s has a move into X, the best move leads into X
pub best_in : (g : Arena) (X : Set) (s : ℕ) → Can g X s → T (X (best g X s))
unfolding best
best_in g X s w =
    let m = meets_in g.size (g.move s) X w.0 w.1 w.2 w.3 in
    rw (cond_yes (some g.size (into g X s)) _ _ m) (and_r (g.move s _) (X _) (least-some g.size (into g X s) m).1)

-- where s has a move, the best move is one
pub best-legal : (g : Arena) (X : Set) (s : ℕ) → (t : ℕ) × (t < g.size) × T (g.move s t) → (best g X s < g.size) × T (g.move s (best g X s))
unfolding best
best-legal g X s w = cond_ind (λ r. (r < g.size) × T (g.move s r)) (some g.size (into g X s)) _ _
    (λ h. let u = least-some g.size (into g X s) h in search and_l)
    (λ _. least-some g.size (g.move s) (some_intro g.size (g.move s) w.0 w.1 w.2))

-- the strategy that forgets the history: at s the best move into X s
unfoldable pub memoryless : (g : Arena) → Live g → (i : Side) → (ℕ → Set) → Strategy g i
memoryless g live i X = record { next = λ h s. best g (X s) s; legal = λ h s l _. best-legal g (X s) s (live s l) }

-- a play that follows the strategy without memory goes into the set wherever side i can force that step
pub force : (g : Arena) (live : Live g) (i : Side) (X : ℕ → Set) (p : ℕ → ℕ) → Play g p → Follows g i (memoryless g live i X) p
    → (j : ℕ) → T (forced g i (X (p j)) (p j)) → T (X (p j) (p (suc j)))
unfolding memoryless
force g live i X p pl fo j h = elim (forced-out g i (X (p j)) (p j) h) [
  | inl a ↦ rw (fo j a.0) (best_in g (X (p j)) (p j) a.1)
  | inr a ↦ a.1 (p (suc j)) (pl.inside (suc j)) (pl.moves j)
]
