-- What the calls for C return: the library's answers, each as one number.
use Rattle.std.specs.Prelude.{ℕ, ◌+◌, ◌*◌, List, Result, Ok, Err}
use Rattle.file.specs.declared.refusal.Refusal.{Refusal}
use Rattle.file.specs.Number.{number}
use Rattle.solver.specs.Solve.{Rows, Outcome}
use Rattle.solver.specs.declared.Verdict.{Verdict}
use Rattle.solver.specs.declared.Verdict.TheVariants.{Yes, No, Open}
use Rattle.exchange.specs.Exchange.{Outcome as Exchange}

-- three numbers in one: word × 2^32 + named × 2^16 + splits
abbrev pub joined : ℕ → ℕ → ℕ → ℕ
joined word named splits = word * 4294967296 + named * 65536 + splits

-- the words are 1 YES, 2 NO, 3 OPEN and 0 refused; the start is named, 65535 for none, or the refusal's number; a
-- refusal has no splits
abbrev pub packed : Result Verdict Refusal → ℕ
packed (Ok (Yes start splits)) = joined 1 start.0 splits
packed (Ok (No splits)) = joined 2 65535 splits
packed (Ok (Open splits)) = joined 3 65535 splits
packed (Err refusal) = joined 0 (number refusal) 0

-- 2^32 and the length that was written, or the refusal's number
abbrev pub packed_exchange : Result ℕ Refusal → ℕ
packed_exchange (Ok length) = 4294967296 + length
packed_exchange (Err refusal) = number refusal

-- what a call of `hvoyanur_solve` hands back: its number, and the rows
pub record PackedOutcome : Type 0 where
  pub value : ℕ
  pub rows : Rows

abbrev pub packed_outcome : Outcome → PackedOutcome
packed_outcome out = record { value = packed out.answer; rows = out.rows }

-- what a call of `hvoyanur_exchange` hands back: its number, and the output
pub record PackedWriting : Type 0 where
  pub value : ℕ
  pub output : List ℕ

abbrev pub packed_writing : Exchange → PackedWriting
packed_writing out = record { value = packed_exchange out.answer; output = out.output }
