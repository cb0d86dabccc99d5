-- `hvoyanur_exchange` meets its contract.
use borrow.Author.Rules.{rules}
use mathlib.Core.Path.{refl, sym}
use Rattle.demands.proofs.Calls.{exchange_promise}
use Rattle.hvoyanur_c_c.proofs.hvoyanur_exchange.Goals as goal

pub returns-clause-promised : goal.returns-clause-promised
returns-clause-promised c = (_, sym c.hvoyanur_exchange.ensures, exchange_promise _ (λ i. search rules) _ _ refl)
