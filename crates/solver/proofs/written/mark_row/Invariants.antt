-- `mark_row` meets its contract.
use mathlib.Core.Path.{◌≡◌}
use Prim.Native.Nat.{◌≤◌}
use lib.ListN.{get_or}
use Rattle.game.specs.Limits.{max_states}
use Rattle.game.specs.Rows.{fill, zeros}
use Rattle.solver.specs.Work.{mark_no}
use Rattle.solver.proofs.written.mark_row.Given as goal

abbrev pub invariant-loop-s : goal.invariant-loop-s
invariant-loop-s l =
    (l.s ≤ l.n) × (l.marks ≡ fill l.s (λ t. mark_no l.objective (get_or l.lower t 0) (get_or l.upper t 0)) (zeros max_states))
