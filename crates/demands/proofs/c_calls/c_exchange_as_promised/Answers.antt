-- `c_exchange_as_promised` meets its contract.
use borrow.Author.Rules.{rules}
use mathlib.Core.Path.{refl, sym}
use Rattle.demands.proofs.Calls.{exchange_promise}
use Rattle.demands.proofs.c_calls.c_exchange_as_promised.Goals as goal

pub returns : goal.returns
returns c = (_, sym c.hvoyanur_exchange.ensures, exchange_promise _ (λ i. search rules) _ _ refl)
