-- `advice_row` meets its contract.
use Prim.Native.Nat.{◌≤◌}
use Rattle.game.specs.Limits.{max_states}
use Rattle.game.specs.Rows.{Cells}
use Rattle.solver.specs.Grouped.{good_on}
use Rattle.solver.proofs.plan.advice_row.Given as goal

abbrev pub invariant-loop-k : goal.invariant-loop-k
invariant-loop-k l =
    (l.k ≤ l.board.moves.moves) × Cells max_states l.out (good_on l.board l.winner l.chase l.row l.k)
