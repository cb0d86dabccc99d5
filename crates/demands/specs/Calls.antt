-- What is promised of each public call, and of an exchange and two calls of the solver: the contracts of this crate's functions.
use Rattle.std.specs.Prelude.{ℕ, ◌≤◌, ◌≡◌, List, length, take, drop, Result, Ok}
use Rattle.game.specs.declared.Game.{Game}
use Rattle.file.specs.declared.refusal.Refusal.{Refusal}
use Rattle.file.specs.Refusals.{refusal}
use Rattle.exchange.specs.Exchange.{Outcome as Exchange, exchanged_file}
use Rattle.solver.specs.Solve.{Rows, short_row, solve_fault, Outcome}
use Rattle.hvoyanur_c.specs.Pack.{PackedOutcome, packed_outcome, PackedWriting, packed_writing}
use Rattle.demands.specs.Meaning.{Means}
use Rattle.demands.specs.Demand1.{Demand1, Demand1OfDecoding, Demand1OfExchange}
use Rattle.demands.specs.Demand2.{Demand2}
use Rattle.demands.specs.Demand3.{Demand3}
use Rattle.demands.specs.Files.{FileOfGame, ExchangedFile}

-- demands 1 and 2, and what the answer means, of a call of `solve`
pub record SolvePromise (f : List ℕ) (a : ℕ) (lent : Rows) (out : Outcome) : Type 0 where
  pub demand1 : Demand1 f a lent out
  pub demand2 : solve_fault f lent ≡ 0 → Demand2 f a out
  pub means : Means f a lent out

-- demand 1 of a call of `decode`; the game of an accepted file is the one whose file it is
pub record DecodePromise (f : List ℕ) (out : Result Game Refusal) : Type 0 where
  pub demand1 : Demand1OfDecoding f out
  pub game : (g : Game) → out ≡ Ok g → FileOfGame f g

-- demand 1 of a call of `exchange`; 01, 'What is handed back': it writes the file of the exchanged game, the output after that keeps its
-- content, the length is equal, and done twice it gives the first bytes
pub record ExchangePromise (f : List ℕ) (lent : List ℕ) (out : Exchange) : Type 0 where
  pub demand1 : Demand1OfExchange f lent out
  pub written : (n : ℕ) → out.answer ≡ Ok n → (n ≡ length f) × (take n out.output ≡ exchanged_file f) × (drop n out.output ≡ drop n lent)
  pub exchanged : (n : ℕ) → out.answer ≡ Ok n → ExchangedFile f

-- demand 3 of a call of `exchange` that was lent `room` and left `output`, and of two calls of `solve`, of the file and of the bytes written
abbrev pub ExchangedSolvePromise : List ℕ → ℕ → Rows → Outcome → List ℕ → List ℕ → Rows → Outcome → Type 0
ExchangedSolvePromise f a lent out room output lent' out' =
    refusal f ≡ 0 → length f ≤ length room → short_row lent ≡ 0 → short_row lent' ≡ 0 → Demand3 f a out (take (length f) output) out'

-- of a call of `hvoyanur_solve`: its number and rows are those of an outcome that is as promised
abbrev pub CSolvePromise : List ℕ → ℕ → Rows → PackedOutcome → Type 0
CSolvePromise f a lent left = (out : Outcome) × (packed_outcome out ≡ left) × SolvePromise f a lent out

-- of a call of `hvoyanur_exchange`: the same
abbrev pub CExchangePromise : List ℕ → List ℕ → PackedWriting → Type 0
CExchangePromise f lent left = (out : Exchange) × (packed_writing out ≡ left) × ExchangePromise f lent out
