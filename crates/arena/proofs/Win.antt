-- Winning by strategies is being in a fixed point of forced steps, for both goals and over either side.
use Prim.Native.Nat.{ℕ, zero, suc, ◌<◌, zero-le}
use mathlib.Core.Path.{◌≡◌, sym, ap}
use mathlib.Core.Bool.{not}
use mathlib.Core.Logic.{inl, inr, ◌↔◌}
use native.Mathlib.Nat.{le_refl}
use native.Mathlib.Omega.{arith}
use lib.Dec.{T, T_not, not_T}
use Rattle.arena.specs.Sets.{Set, compl}
use Rattle.arena.specs.Arena.{Side, other, Arena, Live, forced, flip}
use Rattle.arena.specs.Play.{Strategy, Play, Follows, outcome}
use Rattle.arena.specs.Win.{Objective, Goal, to_reach, to_stay, swap_goal, objective, Winning, Spoils}
use Rattle.arena.specs.Passes.{grow, nearer}
use Rattle.arena.proofs.Tests.{stable, contra, not-not}
use Rattle.arena.proofs.Sets.{Sub, compl-compl}
use Rattle.arena.proofs.Passes.{grow-le, grow-closed, descent}
use Rattle.arena.proofs.Forced.{other-other, flip-forced, forced_mono, forced_dual, rank_step}
use Rattle.arena.proofs.Plays.{outcome-play, outcome-mine, outcome_theirs, memoryless, force}

-- ## The fixed points

-- the states from which side i can bring the play into A
unfoldable pub reach : Arena → Side → Set → Set
reach g i A = grow (forced g i) A g.size

-- the states from which side i can keep the play in A
unfoldable pub hold : Arena → Side → Set → Set
hold g i A s = not (reach g (other i) (compl A) s)

-- the winning region of side i for a goal and a target
abbrev pub region : Arena → Side → Goal → Set → Set
region g i to_reach A = reach g i A
region g i to_stay A = hold g i A

module _ (g : Arena) (i : Side) (A : Set) where
  -- the target lies in reach
  reach-target : (s : ℕ) → T (A s) → T (reach g i A s)
  unfolding reach grow
  reach-target s x = grow-le (forced g i) A 0 g.size s zero-le x

  -- a forced step into reach starts in reach
  reach-closed : Sub g.size (forced g i (reach g i A)) (reach g i A)
  unfolding reach grow
  reach-closed = grow-closed g.size (forced g i) (forced_mono g i) A g.size (omega arith)

module _ (g : Arena) (i : Side) (A : Set) where
  -- hold lies in the target
  hold-target : (s : ℕ) → T (hold g i A s) → T (A s)
  unfolding hold
  hold-target s x = rw (not-not (A s)) at (contra (not (A s)) (reach g (other i) (compl A) s) (reach-target g (other i) (compl A) s) x)

  -- from hold side i can force a step into hold
  hold-closed : Sub g.size (hold g i A) (forced g i (hold g i A))
  unfolding hold
  hold-closed s l x =
      let X = reach g (other i) (compl A) in
      rw (forced_dual g i X s) (contra (forced g (other i) X s) (X s) (reach-closed g (other i) (compl A) s l) x)

  -- with the turns exchanged side i reaches what its opponent did
  flip-reach : reach (flip g) i A ≡ reach g (other i) A
  unfolding reach flip
  flip-reach = ap (λ (F : Set → Set). grow F A g.size) (flip-forced g i)

-- the opponent wins the opposite goal exactly outside the region
pub region-other : (g : Arena) (i : Side) (o : Goal) (A : Set) (s : ℕ) → region g (other i) (swap_goal o) (compl A) s ≡ not (region g i o A s)
unfolding hold
region-other g i to_reach A s = rw (other-other i, compl-compl A)
region-other g i to_stay A s = sym (not-not (reach g (other i) (compl A) s))

-- with the turns exchanged side i has its opponent's region
pub flip-region : (g : Arena) (i : Side) (o : Goal) (A : Set) → region (flip g) i o A ≡ region g (other i) o A
unfolding hold
flip-region g i to_reach A = flip-reach g i A
flip-region g i to_stay A = ap compl (flip-reach g (other i) (compl A))

-- ## A strategy for each goal, and what it does to every play that follows it

module _ (g : Arena) (live : Live g) (i : Side) (A : Set) where
  -- the strategy of side i for a goal: to reach, always nearer to the target; to stay, never out of hold
  abbrev winner : Goal → Strategy g i
  winner to_reach = memoryless g live i (nearer g.size (forced g i) A)
  winner to_stay = memoryless g live i (λ s. hold g i A)

  -- a play that follows that strategy from the region meets the goal
  winner_plays : (o : Goal) (p : ℕ → ℕ) → Play g p → Follows g i (winner o) p → T (region g i o A (p 0)) → objective o A p
  unfolding reach
  winner_plays to_reach p pl fo h =
      let m = descent g.size (forced g i) A p
      (λ j k b x. elim (rank_step g i (forced g i) (λ X s _ y. y) A k (p j) b (pl.inside j) x) [
        | inl a ↦ inl a
        | inr c ↦ inr (force g live i (nearer g.size (forced g i) A) p pl fo j c)
      ])
      g.size 0 (le_refl g.size) h in
      (m.0, m.3)
  winner_plays to_stay p pl fo h = λ k. hold-target g i A (p k) (held k)
    where
      held : (k : ℕ) → T (hold g i A (p k))
      held zero = h
      held (suc k) = force g live i (λ s. hold g i A) p pl fo k (hold-closed g i A (p k) (pl.inside k) (held k))

-- ## Winning and spoiling

-- no play meets a goal and the opposite goal for the complement
opposed : (o : Goal) (A : Set) (p : ℕ → ℕ) → objective o A p → objective (swap_goal o) (compl A) p → ⊥
opposed to_reach A p w h = T_not (A (p w.0)) (h w.0) w.1
opposed to_stay A p h w = T_not (A (p w.0)) w.1 (h w.0)

-- no state is both won and spoiled: the two strategies would meet in one outcome
pub not_both : (g : Arena) (i : Side) (Φ : Objective) (s : ℕ) → Winning g i Φ s → Spoils g i Φ s → ⊥
unfolding Winning Spoils
not_both g i Φ s w v = v.1 w.0 (w.1 v.0)

module _ (g : Arena) (live : Live g) (i : Side) (o : Goal) (A : Set) (s : ℕ) (l : s < g.size) where
  -- in the region side i wins
  pub region-wins : T (region g i o A s) → Winning g i (objective o A) s
  unfolding Winning outcome
  region-wins h =
      let σ = winner g live i A o in
      (σ, λ τ. winner_plays g live i A o (outcome g i σ τ s) (outcome-play g i σ τ s l) (outcome-mine g i σ τ s) h)

  -- outside the region its opponent spoils
  pub outside_spoils : (T (region g i o A s) → ⊥) → Spoils g i (objective o A) s
  unfolding Spoils outcome
  outside_spoils n =
      let τ = winner g live (other i) (compl A) (swap_goal o) in (
        τ,
        λ σ w. opposed o A (outcome g i σ τ s) w
            (winner_plays g live (other i) (compl A) (swap_goal o) (outcome g i σ τ s) (outcome-play g i σ τ s l) (outcome_theirs g i σ τ s)
            (rw (region-other g i o A s) (not_T (region g i o A s) n))),
      )

  -- side i wins exactly in its region
  pub winning_region : Winning g i (objective o A) s ↔ T (region g i o A s)
  winning_region = ((λ w. stable (region g i o A s) (λ n. not_both g i (objective o A) s w (outside_spoils n))), region-wins)
