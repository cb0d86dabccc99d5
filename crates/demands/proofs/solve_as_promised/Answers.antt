-- `solve_as_promised` meets its contract.
use Rattle.demands.proofs.Calls.{solve_promise}
use Rattle.demands.proofs.solve_as_promised.Goals as goal

pub returns : goal.returns
returns c = solve_promise _ _ _ _ c.solve.ensures
