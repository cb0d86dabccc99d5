-- The four rules of 01's plan in the view of the side that hunts: one law over the side that wins.
use mathlib.Core.Path.{◌≡◌, refl, sym, ap, ap₂, ◌∙◌, fun_ext}
use mathlib.Core.Bool.{not, ◌&&◌, cond}
use Prim.Native.Nat.{ℕ, suc}
use lib.Dec.{ltb}
use Rattle.arena.specs.Sets.{Set, compl}
use Rattle.arena.specs.Arena.{Side, one, two, same}
use Rattle.arena.specs.Win.{Goal, to_reach, to_stay}
use Rattle.arena.proofs.Tests.{not-not}
use Rattle.game.specs.Game.{block_at, targets}
use Rattle.game.specs.Published.{goal_of, arena_of}
use Rattle.game.specs.declared.Game.{Game}
use Rattle.blocks.specs.Round.{sure, possible}
use Rattle.blocks.specs.Hunt.{hunter, lower}
use Rattle.blocks.proofs.Hunt.{sure-reach, possible-reach, sure_stay, never_stay, entered-rank, left_rank}
use Rattle.runs.specs.Run.{Word, YES, NO}
use Rattle.solver.specs.Rules.{advice, rule, planned}
use Rattle.solver.specs.Work.{chase_rank, chase_rule, flee_rule, winner_rule}

module _ (g : Game) (s : ℕ) where
  -- reach: side 1 hunts, and side 2 is hunted
  module _ (reaching : goal_of g.objective ≡ to_reach) where
    yes_reach : rule YES to_reach g s ≡ chase_rule g to_reach s
    unfolding rule chase_rule arena_of
    yes_reach =
        ap₂ (λ (S X : Set). advice g one (λ t. S t && not (targets g t)) X s)
        (ap (λ (o : Goal). sure (arena_of g) (block_at g) o (targets g)) reaching ∙ sure-reach (arena_of g) (block_at g) (targets g))
        (fun_ext (λ t. ap₂ ltb (entered-rank (arena_of g) (block_at g) (targets g) t) (entered-rank (arena_of g) (block_at g) (targets g) s)))

    no_reach : rule NO to_reach g s ≡ flee_rule g to_reach s
    unfolding rule flee_rule
    no_reach =
        ap (λ (P : Set). advice g two (compl P) (compl P) s)
        (ap (λ (o : Goal). possible (arena_of g) (block_at g) o (targets g)) reaching ∙ possible-reach (arena_of g) (block_at g) (targets g))

  -- stay: side 2 hunts, and side 1 is hunted
  module _ (staying : goal_of g.objective ≡ to_stay) where
    yes_stay : rule YES to_stay g s ≡ flee_rule g to_stay s
    unfolding rule flee_rule
    yes_stay =
        ap (λ (S : Set). advice g one S S s)
        (ap (λ (o : Goal). sure (arena_of g) (block_at g) o (targets g)) staying ∙ sure_stay (arena_of g) (block_at g) (targets g))

    no_stay : rule NO to_stay g s ≡ chase_rule g to_stay s
    unfolding rule chase_rule arena_of
    no_stay =
        ap₂ (λ (N X : Set). advice g two (λ t. N t && targets g t) X s)
        (ap (λ (o : Goal). compl (possible (arena_of g) (block_at g) o (targets g))) staying ∙ never_stay (arena_of g) (block_at g) (targets g))
        (fun_ext (λ t. ap₂ ltb (left_rank (arena_of g) (block_at g) (targets g) t) (left_rank (arena_of g) (block_at g) (targets g) s)))
        ∙ ap (λ (B : Set). advice g two (λ t. lower (arena_of g) (block_at g) two (compl (targets g)) t && B t) (λ t. ltb (suc (chase_rank g to_stay t)) (suc (chase_rank g to_stay s))) s)
        (fun_ext (λ t. sym (not-not (targets g t))))

-- a game's goal is reach or stay
by_goal : (P : Goal → Type 0) (g : Game) → (goal_of g.objective ≡ to_reach → P to_reach) → (goal_of g.objective ≡ to_stay → P to_stay) → P (goal_of g.objective)
by_goal P g f h = go (goal_of g.objective) refl
  where
    go : (o : Goal) → goal_of g.objective ≡ o → P o
    go to_reach e = f e
    go to_stay e = h e

-- the word by which a side wins
abbrev pub won_by : Side → Word
won_by one = YES
won_by two = NO

-- the plan of a decided round is the rule of the side that wins
pub winner-rule : (g : Game) (i : Side) (s : ℕ) → winner_rule g i s ≡ planned (won_by i) g s
winner-rule g one s =
    by_goal (λ o. cond (same one (hunter o)) (chase_rule g o s) (flee_rule g o s) ≡ rule YES o g s) g
    (λ e. sym (yes_reach g s e)) (λ e. sym (yes_stay g s e))
winner-rule g two s =
    by_goal (λ o. cond (same two (hunter o)) (chase_rule g o s) (flee_rule g o s) ≡ rule NO o g s) g
    (λ e. sym (no_reach g s e)) (λ e. sym (no_stay g s e))
