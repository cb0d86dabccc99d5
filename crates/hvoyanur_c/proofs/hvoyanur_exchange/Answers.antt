-- `hvoyanur_exchange` meets its contract.
use mathlib.Core.Path.{ap}
use native.Mathlib.Omega.{arith}
use Rattle.exchange.specs.Exchange.{Outcome}
use Rattle.hvoyanur_c.proofs.Short.{written_short}
use Rattle.hvoyanur_c.proofs.hvoyanur_exchange.Goals as goal

pub overflow_add-result : goal.overflow_add-result
overflow_add-result c = omega (arith, written_short _ _ _ (ap (λ (x : Outcome). x.answer) c.in-Ok.ensures))
