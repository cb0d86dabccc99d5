-- `hvoyanur_solve` meets its contract.
use mathlib.Core.Path.{refl, sym}
use Rattle.demands.proofs.Calls.{solve_promise}
use Rattle.hvoyanur_c_c.proofs.hvoyanur_solve.Goals as goal

pub returns-clause-promised : goal.returns-clause-promised
returns-clause-promised c = (_, sym c.hvoyanur_solve.ensures, solve_promise _ _ _ _ refl)
