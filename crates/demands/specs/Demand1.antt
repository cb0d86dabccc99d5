-- Demand 1, of every call that takes a file: what a call with the bytes f hands back.
use Rattle.std.specs.Prelude.{ℕ, ◌≤◌, ◌≡◌, ◌↔◌, List, length, Result, Err, IsOk}
use Rattle.game.specs.declared.Game.{Game}
use Rattle.file.specs.declared.refusal.Refusal.{Refusal}
use Rattle.file.specs.Number.{number}
use Rattle.file.specs.Refusals.{refusal}
use Rattle.decoding.specs.Decode.{decoded}
use Rattle.exchange.specs.Exchange.{Outcome as Exchange, exchange_fault, exchanged}
use Rattle.solver.specs.Solve.{Rows, Outcome, solve_fault, solved}

-- `first` is the number of the first condition met, 0 where none is
pub record GivenExactly {Answer : Type 0} (first : ℕ) (answer : Result Answer Refusal) : Type 0 where
  -- 'A bad game or a short row gets one of the refusals 1 to 11,
  pub one_to_eleven : first ≤ 11
  -- given exactly when its condition is the first met'
  pub exactly_when : (r : Refusal) → (answer ≡ Err r) ↔ (first ≡ number r)
  -- and none where no condition is met
  pub else_none : IsOk answer ↔ (first ≡ 0)

-- solving with the allowance a and three lent rows
pub record Demand1 (f : List ℕ) (a : ℕ) (lent : Rows) (out : Outcome) : Type 0 where
  -- 'It takes all byte strings and ends on each.': there is one outcome for each
  pub takes_all : out ≡ solved f a lent
  pub refusals : GivenExactly (solve_fault f lent) out.answer
  -- 'and all lent rows stay untouched.'
  pub untouched : (r : Refusal) → out.answer ≡ Err r → out.rows ≡ lent

-- decoding, which is lent nothing
pub record Demand1OfDecoding (f : List ℕ) (out : Result Game Refusal) : Type 0 where
  pub takes_all : out ≡ decoded f
  pub refusals : GivenExactly (refusal f) out

-- the exchange with a lent output
pub record Demand1OfExchange (f : List ℕ) (lent : List ℕ) (out : Exchange) : Type 0 where
  pub takes_all : out ≡ exchanged f lent
  pub refusals : GivenExactly (exchange_fault f (length lent)) out.answer
  pub untouched : (r : Refusal) → out.answer ≡ Err r → out.output ≡ lent
