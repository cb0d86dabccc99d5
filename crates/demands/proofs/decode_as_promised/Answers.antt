-- `decode_as_promised` meets its contract.
use borrow.Author.Rules.{rules}
use Rattle.demands.proofs.Calls.{decode_promise}
use Rattle.demands.proofs.decode_as_promised.Goals as goal

pub returns : goal.returns
returns c = decode_promise _ (λ i. search rules) _ c.decode.ensures
