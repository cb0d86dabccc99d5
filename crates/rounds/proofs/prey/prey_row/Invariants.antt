-- `prey_row` meets its contract: the places passed tell the prey.
use Prim.Native.Nat.{◌≤◌}
use mathlib.Core.Path.{◌≡◌}
use lib.ListN.{get_or}
use Rattle.arena.specs.Sets.{bit}
use Rattle.game.specs.Limits.{max_states}
use Rattle.game.specs.Rows.{fill, zeros}
use Rattle.game.specs.Game.{marked}
use Rattle.game.specs.Published.{goal_of}
use Rattle.blocks.specs.Hunt.{prey}
use Rattle.rounds.proofs.prey.prey_row.Given as goal

abbrev pub invariant-loop-s : goal.invariant-loop-s
invariant-loop-s l =
    (l.s ≤ l.n) × (l.row ≡ fill l.s (λ s. bit (prey (goal_of l.objective) (λ t. marked 2 (get_or l.marks t 0)) s)) (zeros max_states))
