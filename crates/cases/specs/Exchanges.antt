-- 01, 'What is handed back' and 'Refusals in their order': cases of the exchange.
use Rattle.std.specs.Prelude.{ℕ, List, [], ◌∷◌, ◌++◌, Result, Ok, Err}
use Rattle.game.specs.Rows.{blank}
use Rattle.file.specs.declared.refusal.Refusal.{Refusal}
use Rattle.file.specs.declared.refusal.Refusal.TheVariants.{ShortRow, CutShort}
use Rattle.exchange.specs.Exchange.{exchanged}
use Rattle.cases.specs.Numbered.{numbered}
use Rattle.cases.specs.Files.{game_m, game_p4, game_p5, head_alone}

-- what comes out: the answer, where a refusal stands beside its number, and the output
pub record Told : Type 0 where
  pub answer : Result ℕ (Refusal × ℕ)
  pub output : List ℕ

-- one line: the bytes of a file, how many places the lent output has, and what is wanted; before the call the output holds sevens
pub record Line : Type 0 where
  pub file : List ℕ
  pub places : ℕ
  pub wanted : Told

-- what the definitions of the exchange make of a line
unfoldable pub outcome : Line → Told
outcome l = let out = exchanged l.file (blank l.places 7) in record { answer = numbered out.answer; output = out.output }

abbrev line : List ℕ → ℕ → Result ℕ (Refusal × ℕ) → List ℕ → Line
line file places answer output = record { file = file; places = places; wanted = record { answer = answer; output = output } }

-- M becomes P4, and the place after it keeps its content; room for all but one byte; a bad file into no room, where 1 is tested last
unfoldable pub lines : List Line
lines =
    line game_m 107 (Ok 106) (game_p4 ++ 7 ∷ [])
    ∷ line game_p5 25 (Err (ShortRow, 1)) (blank 25 7)
    ∷ line head_alone 0 (Err (CutShort, 2)) []
    ∷ []
