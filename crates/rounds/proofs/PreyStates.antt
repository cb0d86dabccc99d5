-- Where the hunting side wants the play, as the code chooses it.
use mathlib.Core.Path.{◌≡◌, refl, ap}
use mathlib.Core.Bool.{Bool, true, false, not, cond, beq}
use Prim.Native.Nat.{ℕ}
use lib.Dec.{eqb}
use Rattle.arena.specs.Sets.{Set, bit}
use Rattle.arena.specs.Win.{to_reach, to_stay}
use Rattle.game.specs.Published.{goal_of}
use Rattle.blocks.specs.Hunt.{prey}

-- two tests that are the same or not, as the code chooses by them; r is what a call gave for b
pub chosen : (a b r v : Bool) → r ≡ b → beq a r ≡ v → bit v ≡ bit (cond a b (not b))
chosen a b r v e q = rw (← e, ← q) (ap bit (go a r))
  where
    go : (a b : Bool) → beq a b ≡ cond a b (not b)
    go true true = refl
    go true false = refl
    go false true = refl
    go false false = refl

-- the prey: the target, or what lies outside it
pub prey_is : (o : ℕ) (A : Set) (s : ℕ) → cond (eqb o 1) (A s) (not (A s)) ≡ prey (goal_of o) A s
prey_is o A s = go (eqb o 1)
  where
    go : (b : Bool) → cond b (A s) (not (A s)) ≡ prey (cond b to_reach to_stay) A s
    go true = refl
    go false = refl
