-- Laws of the forced-step set, over either side.
use Prim.Native.Nat.{ℕ, zero, suc, pred, ◌≤◌, ◌<◌, zero-le}
use mathlib.Core.Path.{◌≡◌, refl, sym, ap, ◌∙◌, fun_ext}
use mathlib.Core.Bool.{Bool, true, false, not, ◌&&◌, cond}
use mathlib.Core.Logic.{◌⊎◌, inl, inr}
use native.Mathlib.Omega.{arith}
use lib.Dec.{T, lt→ltb}
use Rattle.arena.specs.Sets.{Set, compl, imp, some, every}
use Rattle.arena.specs.Arena.{Side, one, two, other, same, Arena, mine, Live, forced, flip}
use Rattle.arena.specs.Passes.{grow, rank, nearer}
use Rattle.arena.proofs.Tests.{dec_T, cond_ind, cond_mono, or_elim, imp-not, and-not, not-not}
use Rattle.arena.proofs.Sets.{Sub, compl-compl, some_intro, not_some, not-every, meets-out, within-out, meets-sub, within-sub, count_pos}
use Rattle.arena.proofs.Passes.{Mono, grow-least, grow-rest, rank-le}

-- ## Sides and turns

-- the opponent of the opponent is the side itself
pub other-other : (i : Side) → other (other i) ≡ i
other-other one = refl
other-other two = refl

-- a side is the opponent of i exactly where it is not i
pub same-other : (i j : Side) → same (other i) j ≡ not (same i j)
same-other one one = refl
same-other one two = refl
same-other two one = refl
same-other two two = refl

-- a state is the opponent's exactly where it is not side i's
pub mine-other : (g : Arena) (i : Side) (s : ℕ) → mine g (other i) s ≡ not (mine g i s)
mine-other g i s = same-other i (g.turn s)

-- with the turns exchanged side i has the states of its opponent
pub flip-mine : (g : Arena) (i : Side) (s : ℕ) → mine (flip g) i s ≡ mine g (other i) s
unfolding flip
flip-mine g i s = go i (g.turn s)
  where
    go : (i j : Side) → same i (other j) ≡ same (other i) j
    go one one = refl
    go one two = refl
    go two one = refl
    go two two = refl

-- with the turns exchanged side i forces what its opponent did
pub flip-forced : (g : Arena) (i : Side) → forced (flip g) i ≡ forced g (other i)
unfolding flip forced
flip-forced g i = fun_ext (λ X. fun_ext (λ s. rw (flip-mine g i s)))

-- with the turns exchanged each state still has a move
pub flip_live : (g : Arena) → Live g → Live (flip g)
unfolding flip
flip_live g live = live

-- ## One forced step

-- s has a move into X
abbrev pub Can : Arena → Set → ℕ → Type 0
Can g X s = (t : ℕ) × (t < g.size) × T (g.move s t) × T (X t)

-- s has no move but into X
abbrev pub Must : Arena → Set → ℕ → Type 0
Must g X s = (t : ℕ) → t < g.size → T (g.move s t) → T (X t)

module _ (g : Arena) (i : Side) where
  -- a forced step is a move of side i's own, or all moves of its opponent
  pub forced-out : (X : Set) (s : ℕ) → T (forced g i X s) → (T (mine g i s) × Can g X s) ⊎ ((T (mine g i s) → ⊥) × Must g X s)
  unfolding forced
  forced-out X s =
      cond_ind (λ b. T b → (T (mine g i s) × Can g X s) ⊎ ((T (mine g i s) → ⊥) × Must g X s)) (mine g i s) _ _
      (λ m h. inl (m, meets-out g.size (g.move s) X h)) (λ m h. inr (m, within-out g.size (g.move s) X h))

  -- into a larger set a step is forced from no fewer states
  pub forced_mono : Mono g.size (forced g i)
  unfolding forced
  forced_mono X Y h s _ =
      cond_mono (mine g i s) _ _ _ _ (meets-sub g.size (g.move s) X (g.move s) Y (λ t l m. m) h)
      (within-sub g.size (g.move s) X (g.move s) Y (λ t l m. m) h)

  -- the opponent forces a step out of X exactly where side i cannot force one into X
  pub forced-other : (X : Set) (s : ℕ) → forced g (other i) (compl X) s ≡ not (forced g i X s)
  unfolding forced
  forced-other X s = rw (mine-other g i s) (go (mine g i s))
    where
      go : (b : Bool) → cond (not b) (some g.size (λ t. g.move s t && not (X t))) (every g.size (λ t. imp (g.move s t) (not (X t))))
          ≡ not (cond b (some g.size (λ t. g.move s t && X t)) (every g.size (λ t. imp (g.move s t) (X t))))
      go true = simp imp-not (not_some g.size (λ t. g.move s t && X t))
      go false = simp and-not (not-every g.size (λ t. imp (g.move s t) (X t)))

  -- side i forces a step out of X exactly where its opponent cannot force one into X
  pub forced_dual : (X : Set) (s : ℕ) → forced g i (compl X) s ≡ not (forced g (other i) X s)
  forced_dual X s =
      sym (not-not (forced g i (compl X) s)) ∙ ap not (sym (forced-other (compl X) s) ∙ ap (λ Y. forced g (other i) Y s) (compl-compl X))

-- ## Passes that add nothing but forced steps

module _ (g : Arena) (i : Side) (F : Set → Set) (sound : (X : Set) → Sub g.size (F X) (forced g i X)) (A : Set) where
  -- from a state of any pass outside A side i can force the play nearer
  pub rank_step : (k s : ℕ) → k ≤ g.size → s < g.size → T (grow F A k s) → T (A s) ⊎ T (forced g i (nearer g.size F A s) s)
  unfolding grow
  rank_step k s b l h = go (rank g.size F A s) refl ((rank-le g.size F A k s b).1 h)
    where
      go : (r : ℕ) → rank g.size F A s ≡ r → rank g.size F A s ≤ k → T (A s) ⊎ T (forced g i (nearer g.size F A s) s)
      go zero e m = inl ((rank-le g.size F A 0 s zero-le).0 (omega arith))
      go (suc q) e m =
          or_elim (grow F A q s) (F (grow F A q) s) (λ low. absurd (let c = (rank-le g.size F A q s (omega arith)).1 low in omega arith))
          (λ f. inr (forced_mono g i (grow F A q) (nearer g.size F A s)
          (λ t _ x. let c = (rank-le g.size F A q t (omega arith)).1 x in omega (arith, lt→ltb)) s l (sound (grow F A q) s l f)))
          ((rank-le g.size F A (suc q) s (omega arith)).0 (omega arith))

  module _ (live : Live g) (mono : Mono g.size F) where
    -- from an empty set nothing grows
    grow_empty : (T (some g.size A) → ⊥) → (k : ℕ) → Sub g.size (grow F A k) (λ s. false)
    grow_empty o = grow-least g.size F mono A (λ s. false) (λ s l a. o (some_intro g.size A s l a)) (λ s l x.
        elim (forced-out g i (λ t. false) s (sound (λ t. false) s l x)) [
          | inl a ↦ a.1.3
          | inr a ↦ (let w = live s l in a.1 w.0 w.1 w.2)
        ])

    -- one pass fewer than there are states brings in all that any number of passes does
    pub soon : (k s : ℕ) → s < g.size → T (grow F A k s) → T (grow F A (pred g.size) s)
    soon k s l h = elim (dec_T (some g.size A)) [
      | inr o ↦ absurd (grow_empty o k s l h)
      | inl y ↦ (let c = count_pos g.size A y in grow-rest g.size F mono A (pred g.size) (omega arith) k s l h)
    ]
