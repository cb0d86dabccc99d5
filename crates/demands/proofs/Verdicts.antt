-- What the word and the marks of one round mean by the published definition, whatever the blocks.
use Prim.Native.Nat.{ℕ, ◌≤◌, ◌<◌}
use mathlib.Core.Path.{◌≡◌, refl}
use mathlib.Core.Bool.{Bool, true, false, cond}
use native.Mathlib.Omega.{arith}
use lib.Dec.{T, eqb}
use Rattle.game.specs.Game.{initials, block_at, targets}
use Rattle.game.specs.Published.{goal_of, arena_of}
use Rattle.game.specs.Accepted.{AcceptedGame}
use Rattle.game.specs.declared.Game.{Game}
use Rattle.blocks.proofs.Sound.{sure-wins, wins-possible, never_spoils}
use Rattle.runs.specs.Run.{sure_states, possible_states, YES, NO, named_start}
use Rattle.runs.proofs.Rounds.{WordSays, accepted_live}
use Rattle.solver.specs.Rules.{mark}
use Rattle.demands.specs.Winners.{Wins, SomeStartWins}
use Rattle.demands.specs.Meaning.{Marked}

-- the mark of a state that is sure or not, and possible or not
abbrev marking : Bool → Bool → ℕ
marking x y = cond x 2 (cond y 1 0)

-- the marks are 0, 1 and 2; a state marked 2 is sure, and one marked 0 is not possible
mark_cases : (x y : Bool) → (marking x y ≤ 2) × (marking x y ≡ 2 → T x) × (marking x y ≡ 0 → T y → ⊥)
mark_cases true y = (omega arith, (λ e. tt), λ e. absurd (omega arith))
mark_cases false true = (omega arith, (λ e. absurd (omega arith)), λ e. absurd (omega arith))
mark_cases false false = (omega arith, (λ e. absurd (omega arith)), λ e h. h)

-- the states marked 2 are the sure ones
pub sure-marked : (g : Game) (s : ℕ) → eqb (mark g s) 2 ≡ sure_states g s
unfolding mark
sure-marked g s = go (sure_states g s) (possible_states g s)
  where
    go : (x y : Bool) → eqb (marking x y) 2 ≡ x
    go true y = refl
    go false true = refl
    go false false = refl

module _ (g : Game) (ok : AcceptedGame g) where
  -- side 1 wins from a state marked sure, and side 2 keeps it from winning from a state marked never
  pub mark-means : (s : ℕ) → s < g.states → Marked g s (mark g s)
  unfolding mark arena_of
  mark-means s l =
      let cases = mark_cases (sure_states g s) (possible_states g s) in
      record {
        named = cases.0;
        sure = λ e. sure-wins (arena_of g) (block_at g) (targets g) (accepted_live g ok) (goal_of g.objective) s l (cases.1 e);
        never = λ e. never_spoils (arena_of g) (block_at g) (targets g) (accepted_live g ok) (goal_of g.objective) s l (cases.2 e);
      }

  -- YES: side 1 wins from the named start
  pub yes_means : WordSays g YES → (named_start g < g.states) × T (initials g (named_start g)) × Wins g (named_start g)
  unfolding arena_of
  yes_means h =
      (h.0, h.1, sure-wins (arena_of g) (block_at g) (targets g) (accepted_live g ok) (goal_of g.objective) (named_start g) h.0 h.2)

  -- NO: it wins from no start
  pub no_means : WordSays g NO → SomeStartWins g → ⊥
  unfolding arena_of
  no_means h w =
      h w.0 w.1 w.2 (wins-possible (arena_of g) (block_at g) (targets g) (accepted_live g ok) (goal_of g.objective) w.0 w.1 w.3)
