-- The words of an answer.
use Rattle.std.specs.Prelude.{◌≡◌, ℕ, ◌<◌, ◌==◌, if◌then◌else◌, List, ◌++◌, codes, Option, Some, None, Result, Ok, Err, MatchResult}
use Rattle.std.specs.Fmt.{decimal}
use Rattle.game.specs.declared.StateNo.{StateNo}
use Rattle.game.specs.Game.{state_no}
use Rattle.solver.specs.declared.Verdict.{Verdict}
use Rattle.solver.specs.declared.Verdict.TheVariants.{Yes, No, Open}
use Rattle.report.specs.declared.words.Mark.{Mark}
use Rattle.report.specs.declared.words.Mark.TheVariants as mark
use Rattle.report.specs.declared.words.WrongMark.{WrongMark}
use Rattle.report.specs.declared.words.StateLine.{StateLine}

-- the number of a mark in the row that the solver fills
abbrev pub mark_number : Mark → ℕ
mark_number mark.Never = 0
mark_number mark.Open = 1
mark_number mark.Sure = 2

-- a number names the mark that has it; only those above 2 name none
abbrev pub NamesMark : ℕ → Result Mark WrongMark → Type 0
NamesMark n r = MatchResult r (λ m. mark_number m ≡ n) (λ e. (e.0 ≡ n) × (2 < n))

abbrev pub mark_word : Mark → List ℕ
mark_word mark.Never = codes "never"
mark_word mark.Open = codes "open"
mark_word mark.Sure = codes "sure"

-- what stands in the place of a mark where a number names none
abbrev pub wrong_word : WrongMark → List ℕ
wrong_word wrong = codes "WRONG"

abbrev pub said_mark : Result Mark WrongMark → List ℕ
said_mark (Ok mark) = mark_word mark
said_mark (Err wrong) = wrong_word wrong

-- what a number in the row of moves says: a state, or 65535 for no move
abbrev pub move_of : ℕ → Option StateNo
move_of n = if n == 65535 then None else Some (state_no n)

-- the state that a move leads to, or a dash where there is no move
abbrev pub move_word : Option StateNo → List ℕ
move_word None = codes "-"
move_word (Some to) = decimal to.0

-- a verdict, the start that it names or a dash, and its splits
abbrev pub verdict_line : Verdict → List ℕ
verdict_line (Yes start splits) = codes "YES " ++ (decimal start.0 ++ (codes " " ++ decimal splits))
verdict_line (No splits) = codes "NO - " ++ decimal splits
verdict_line (Open splits) = codes "OPEN - " ++ decimal splits

-- a state's number, its mark, its block and its move
abbrev pub state_line : StateLine → List ℕ
state_line line = decimal line.state ++ (codes " " ++ (said_mark line.mark ++ (codes " " ++ (decimal line.block ++ (codes " " ++ move_word line.to.0)))))
