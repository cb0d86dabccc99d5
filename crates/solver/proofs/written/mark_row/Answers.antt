-- `mark_row` meets its contract.
use native.Mathlib.Omega.{arith}
use Rattle.game.specs.Limits.{max_states}
use Rattle.game.specs.Rows.{blank, zeros}
use Rattle.game.proofs.Small.{sweep}
use Rattle.game.proofs.Rows.{fill_none, fill_store, zeros-length}
use Rattle.solver.proofs.written.mark_row.Goals as goal

pub loop-s-init : goal.loop-s-init
unfolding blank
loop-s-init c = (search sweep, fill_none _ (zeros max_states))

pub loop-s-preserved : goal.loop-s-preserved
loop-s-preserved c = (search sweep, fill_store _ _ _ (omega (arith, zeros-length max_states)) _ c.loop-s.invariant.1 _ c.mark_no.ensures)
