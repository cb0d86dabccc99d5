-- `c_solve_as_promised` meets its contract.
use mathlib.Core.Path.{refl, sym}
use Rattle.demands.proofs.Calls.{solve_promise}
use Rattle.demands.proofs.c_calls.c_solve_as_promised.Goals as goal

pub returns : goal.returns
returns c = (_, sym c.hvoyanur_solve.ensures, solve_promise _ _ _ _ refl)
