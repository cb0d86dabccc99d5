-- `exchange_as_promised` meets its contract.
use borrow.Author.Rules.{rules}
use Rattle.demands.proofs.Calls.{exchange_promise}
use Rattle.demands.proofs.exchange_as_promised.Goals as goal

pub returns : goal.returns
returns c = exchange_promise _ (λ i. search rules) _ _ c.exchange.ensures
