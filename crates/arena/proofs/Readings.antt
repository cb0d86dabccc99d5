-- The theorems on winning: 000's strategies and 01's numbers of moves agree, each state is decided, and exchanging the sides turns winning into not winning.
use Prim.Native.Nat.{ℕ, ◌<◌}
use mathlib.Core.Path.{◌∙◌, sym, ap, subst}
use mathlib.Core.Logic.Iff
use mathlib.Core.Logic.{◌⊎◌, inl, inr, ◌↔◌}
use lib.Dec.{T, T_not, not_T}
use Rattle.arena.specs.Sets.{Set, compl}
use Rattle.arena.specs.Arena.{Side, Arena, Live, flip}
use Rattle.arena.specs.Win.{Goal, swap_goal, objective, Winning, Spoils, ByMoves}
use Rattle.arena.proofs.Tests.{dec_T}
use Rattle.arena.proofs.Forced.{flip_live}
use Rattle.arena.proofs.Win.{region, region-other, flip-region, region-wins, outside_spoils, not_both, winning_region}
use Rattle.arena.proofs.Moves.{region-moves}

-- a strategy over histories that wins against every opposing one exists exactly where 01's reading by numbers of moves says so
pub readings_agree : (g : Arena) → Live g → (i : Side) (o : Goal) (A : Set) (s : ℕ) → s < g.size
    → Winning g i (objective o A) s ↔ ByMoves g i o A s
readings_agree g live i o A s l = Iff.trans (winning_region g live i o A s l) (Iff.symm (region-moves g i o A s l))

-- each state is decided: side i can win from it, or its opponent can spoil
pub decided : (g : Arena) → Live g → (i : Side) (o : Goal) (A : Set) (s : ℕ) → s < g.size
    → Winning g i (objective o A) s ⊎ Spoils g i (objective o A) s
decided g live i o A s l = elim (dec_T (region g i o A s)) [
  | inl h ↦ inl (region-wins g live i o A s l h)
  | inr n ↦ inr (outside_spoils g live i o A s l n)
]

-- what side i cannot win its opponent can spoil, and nobody can do both
pub spoiled : (g : Arena) → Live g → (i : Side) (o : Goal) (A : Set) (s : ℕ) → s < g.size
    → (Winning g i (objective o A) s → ⊥) ↔ Spoils g i (objective o A) s
spoiled g live i o A s l =
    ((λ n. outside_spoils g live i o A s l (λ h. n (region-wins g live i o A s l h))), λ v w. not_both g i (objective o A) s w v)

-- demand 3: flip whose turn each state is, take the other states as target, and turn reach into stay or stay into reach;
-- the states side i can win are then exactly those it could not win before
pub flipped : (g : Arena) → Live g → (i : Side) (o : Goal) (A : Set) (s : ℕ) → s < g.size
    → Winning (flip g) i (objective (swap_goal o) (compl A)) s ↔ (Winning g i (objective o A) s → ⊥)
unfolding flip
flipped g live i o A s l =
    let before = winning_region g live i o A s l in
    let after = winning_region (flip g) (flip_live g live) i (swap_goal o) (compl A) s l in
    let e = ap (λ (X : Set). X s) (flip-region g i (swap_goal o) (compl A)) ∙ region-other g i o A s in (
      (λ w b. T_not (region g i o A s) (subst T e (after.0 w)) (before.0 b)),
      λ n. after.1 (subst T (sym e) (not_T (region g i o A s) (λ h. n (before.1 h)))),
    )
