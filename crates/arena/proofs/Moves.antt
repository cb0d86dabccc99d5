-- Laws of winning by numbers of moves: it is growing and dropping by passes, and the two numbers are opposite.
use Prim.Native.Nat.{ℕ, zero, suc, ◌<◌, zero-le}
use mathlib.Core.Path.{◌≡◌, sym, fun_ext}
use mathlib.Core.Bool.{not}
use mathlib.Core.Logic.{◌↔◌}
use native.Mathlib.Omega.{arith}
use lib.Dec.{T, T_not, not_T}
use Rattle.arena.specs.Sets.{Set, compl}
use Rattle.arena.specs.Arena.{Side, other, Arena, forced}
use Rattle.arena.specs.Win.{Goal, to_reach, to_stay, reach_in, stay_for, ByMoves}
use Rattle.arena.specs.Passes.{grow}
use Rattle.arena.proofs.Tests.{or_l, or_r, or_elim, or_mono, not-not, nor}
use Rattle.arena.proofs.Sets.{Sub}
use Rattle.arena.proofs.Passes.{grow-le, grow-rest}
use Rattle.arena.proofs.Forced.{forced_mono, forced_dual}
use Rattle.arena.proofs.Win.{reach, hold, region}

module _ (g : Arena) (i : Side) (A : Set) where
  -- what wins in k moves wins in one more
  reach_in-more : (k : ℕ) → Sub g.size (reach_in g i A k) (reach_in g i A (suc k))
  unfolding reach_in
  reach_in-more zero s l x = or_l (A s) (forced g i (reach_in g i A 0) s) x
  reach_in-more (suc k) s l x =
      let R = reach_in g i A in
      or_mono (A s) (forced g i (R k) s) (A s) (forced g i (R (suc k)) s) (λ a. a) (forced_mono g i (R k) (R (suc k)) (reach_in-more k) s l) x

  -- what k passes bring in wins in k moves, and the other way round
  both_ways : (k : ℕ) → Sub g.size (grow (forced g i) A k) (reach_in g i A k) × Sub g.size (reach_in g i A k) (grow (forced g i) A k)
  unfolding grow reach_in
  both_ways zero = ((λ s l x. x), λ s l x. x)
  both_ways (suc k) =
      let ih = both_ways k in
      let P = grow (forced g i) A k in
      let R = reach_in g i A k in (
        (λ s l. or_elim (P s) (forced g i P s) (λ y. reach_in-more k s l (ih.0 s l y)) (λ f. or_r (A s) (forced g i R s) (forced_mono g i P R ih.0 s l f))),
        λ s l. or_mono (A s) (forced g i R s) (P s) (forced g i P s) (grow-le (forced g i) A 0 k s zero-le) (forced_mono g i R P ih.1 s l),
      )

  -- the states that win reach in some number of moves are those of reach
  reach-moves : (s : ℕ) → s < g.size → ((k : ℕ) × T (reach_in g i A k s)) ↔ T (reach g i A s)
  unfolding reach
  reach-moves s l = (
    (λ w. grow-rest g.size (forced g i) (forced_mono g i) A g.size (omega arith) w.0 s l ((both_ways w.0).1 s l w.1)),
    λ h. (g.size, (both_ways g.size).0 s l h),
  )

  -- side i keeps the play in A for k moves exactly where its opponent cannot leave A within k
  stay_for-other : (k : ℕ) → stay_for g i A k ≡ compl (reach_in g (other i) (compl A) k)
  unfolding stay_for reach_in
  stay_for-other zero = fun_ext (λ s. sym (not-not (A s)))
  stay_for-other (suc k) =
      let R = reach_in g (other i) (compl A) k in
      fun_ext (λ s. rw (stay_for-other k) (rw (forced_dual g i R s) (rw (not-not (A s)) at (nor (not (A s)) (forced g (other i) R s)))))

module _ (g : Arena) (i : Side) (A : Set) where
  -- the states where side i can keep the play in A for every number of moves are those of hold
  hold-moves : (s : ℕ) → s < g.size → ((k : ℕ) → T (stay_for g i A k s)) ↔ T (hold g i A s)
  unfolding hold
  hold-moves s l =
      let R = reach_in g (other i) (compl A) in
      let theirs = reach-moves g (other i) (compl A) s l in (
        (λ f. not_T (reach g (other i) (compl A) s) (λ h.
            let w = theirs.1 h in T_not (R w.0 s) (rw (stay_for-other g i A w.0) at (f w.0)) w.1)),
        λ h k. rw (stay_for-other g i A k) (not_T (R k s) (λ r. T_not (reach g (other i) (compl A) s) h (theirs.0 (k, r)))),
      )

-- the winning region is 01's reading by numbers of moves
pub region-moves : (g : Arena) (i : Side) (o : Goal) (A : Set) (s : ℕ) → s < g.size → ByMoves g i o A s ↔ T (region g i o A s)
region-moves g i to_reach A s l = reach-moves g i A s l
region-moves g i to_stay A s l = hold-moves g i A s l
