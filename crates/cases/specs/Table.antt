-- 01, 'Sheet of cases': what goes in and what comes out.
use Rattle.std.specs.Prelude.{ℕ, List, [], ◌∷◌, take, Result, Ok, Err}
use Rattle.arena.specs.Plan.{no_move}
use Rattle.game.specs.Rows.{blank}
use Rattle.game.specs.Game.{state_no}
use Rattle.file.specs.declared.refusal.Refusal.{Refusal}
use Rattle.file.specs.declared.refusal.Refusal.TheVariants.{ShortRow, CutShort, OtherRecord, BadHead, BadState, BytesAtEnd, NoStart, NoMove, MixedStarts}
use Rattle.file.specs.Layout.{states}
use Rattle.solver.specs.Solve.{Rows, solved}
use Rattle.solver.specs.declared.Verdict.{Verdict}
use Rattle.solver.specs.declared.Verdict.TheVariants.{Yes, No, Open}
use Rattle.cases.specs.Numbered.{numbered}
use Rattle.cases.specs.Files.{game_m, game_p3, game_p4, game_p5, game_p6, game_p7, game_p8, game_p9, empty_file, head_alone, two_borders, two_starts, block_of_three, open_under_yes_stay, open_under_no_reach, open_under_no_stay, mixed_block, no_start, mixed_and_stuck, no_start_and_more, bad_turn_and_more, two_bad_records, bad_head_and_turn, state_for_move, long_head, three_in_a_row}

-- the bytes of a file, an allowance, and how many places each lent row has
pub record Case : Type 0 where
  pub file : List ℕ
  pub allowance : ℕ
  pub places : ℕ

-- the lent rows before the call: sevens
unfoldable pub lent : Case → Rows
lent c = let row : List ℕ = blank c.places 7 in record { marks = row; blocks = row; moves = row }

-- what comes out: the answer, where a refusal stands beside its number, and the rows
pub record Told : Type 0 where
  pub answer : Result Verdict (Refusal × ℕ)
  pub rows : Rows

-- what the solver's definitions make of a case, with as many places of each row as the head says states
unfoldable pub outcome : Case → Told
outcome c =
    let n = states c.file in
    let out = solved c.file c.allowance (lent c) in
    record {
      answer = numbered out.answer;
      rows = record { marks = take n out.rows.marks; blocks = take n out.rows.blocks; moves = take n out.rows.moves };
    }

-- one line of the table
pub record Line : Type 0 where
  pub given : Case
  pub wanted : Told

abbrev line : List ℕ → ℕ → ℕ → Result Verdict (Refusal × ℕ) → List ℕ → List ℕ → List ℕ → Line
line file allowance places answer marks blocks moves =
    record {
      given = record { file = file; allowance = allowance; places = places };
      wanted = record { answer = answer; rows = record { marks = marks; blocks = blocks; moves = moves } };
    }

-- 01, 'Sheet of cases': P1 to P10, and P1 with rows one place too short; then a line for each choice
unfoldable pub lines : List Line
lines =
    line game_m 511 512 (Ok (Yes (state_no 0) 1)) (2 ∷ 2 ∷ 0 ∷ 2 ∷ 0 ∷ []) (0 ∷ 1 ∷ 2 ∷ 3 ∷ 4 ∷ []) (1 ∷ no_move ∷ no_move ∷ no_move ∷ no_move ∷ [])
    ∷ line game_m 0 512 (Ok (Open 0)) (1 ∷ 1 ∷ 1 ∷ 2 ∷ 0 ∷ []) (0 ∷ 1 ∷ 1 ∷ 3 ∷ 4 ∷ []) (no_move ∷ no_move ∷ no_move ∷ no_move ∷ no_move ∷ [])
    ∷ line game_p3 511 512 (Ok (No 1)) (0 ∷ 2 ∷ 0 ∷ 2 ∷ 0 ∷ []) (0 ∷ 1 ∷ 2 ∷ 3 ∷ 4 ∷ []) (no_move ∷ no_move ∷ 4 ∷ no_move ∷ no_move ∷ [])
    ∷ line game_p4 511 512 (Ok (No 1)) (0 ∷ 0 ∷ 2 ∷ 0 ∷ 2 ∷ []) (0 ∷ 1 ∷ 2 ∷ 3 ∷ 4 ∷ []) (1 ∷ no_move ∷ no_move ∷ no_move ∷ no_move ∷ [])
    ∷ line game_p5 511 512 (Ok (Yes (state_no 0) 0)) (2 ∷ []) (0 ∷ []) (no_move ∷ [])
    ∷ line game_p6 511 512 (Ok (No 0)) (0 ∷ []) (0 ∷ []) (no_move ∷ [])
    ∷ line game_p7 511 512 (Ok (Yes (state_no 0) 0)) (2 ∷ []) (0 ∷ []) (0 ∷ [])
    ∷ line game_p8 511 512 (Ok (Yes (state_no 0) 1)) (2 ∷ 0 ∷ 2 ∷ 0 ∷ []) (0 ∷ 1 ∷ 2 ∷ 3 ∷ []) (2 ∷ no_move ∷ no_move ∷ no_move ∷ [])
    ∷ line game_p9 511 512 (Ok (Yes (state_no 0) 1)) (2 ∷ 2 ∷ 0 ∷ 2 ∷ 0 ∷ []) (0 ∷ 1 ∷ 2 ∷ 3 ∷ 4 ∷ []) (1 ∷ 3 ∷ no_move ∷ no_move ∷ no_move ∷ [])
    ∷ line empty_file 511 512 (Err (CutShort, 2)) [] [] []
    ∷ line head_alone 511 512 (Err (CutShort, 2)) (7 ∷ 7 ∷ 7 ∷ 7 ∷ 7 ∷ []) (7 ∷ 7 ∷ 7 ∷ 7 ∷ 7 ∷ []) (7 ∷ 7 ∷ 7 ∷ 7 ∷ 7 ∷ [])
    ∷ line game_m 511 511 (Err (ShortRow, 1)) (7 ∷ 7 ∷ 7 ∷ 7 ∷ 7 ∷ []) (7 ∷ 7 ∷ 7 ∷ 7 ∷ 7 ∷ []) (7 ∷ 7 ∷ 7 ∷ 7 ∷ 7 ∷ [])
    ∷ line empty_file 511 511 (Err (ShortRow, 1)) [] [] []
    ∷ line two_borders 1 512 (Ok (Open 1)) (1 ∷ 2 ∷ 0 ∷ 1 ∷ 1 ∷ 0 ∷ 2 ∷ []) (0 ∷ 1 ∷ 2 ∷ 3 ∷ 3 ∷ 5 ∷ 6 ∷ []) (blank 7 no_move)
    ∷ line two_starts 511 512 (Ok (Yes (state_no 0) 0)) (2 ∷ 2 ∷ 2 ∷ 2 ∷ 1 ∷ 1 ∷ 0 ∷ []) (0 ∷ 1 ∷ 2 ∷ 3 ∷ 4 ∷ 4 ∷ 6 ∷ []) (2 ∷ 3 ∷ blank 5 no_move)
    ∷ line block_of_three 511 512 (Ok (No 1)) (0 ∷ 2 ∷ 2 ∷ 0 ∷ 2 ∷ 0 ∷ 0 ∷ []) (0 ∷ 1 ∷ 1 ∷ 3 ∷ 4 ∷ 5 ∷ 6 ∷ []) (no_move ∷ no_move ∷ no_move ∷ 5 ∷ blank 3 no_move)
    ∷ line open_under_yes_stay 511 512 (Ok (Yes (state_no 0) 0)) (2 ∷ 1 ∷ 1 ∷ 0 ∷ []) (0 ∷ 1 ∷ 1 ∷ 3 ∷ []) (0 ∷ blank 3 no_move)
    ∷ line open_under_no_reach 511 512 (Ok (No 0)) (0 ∷ 1 ∷ 1 ∷ 2 ∷ []) (0 ∷ 1 ∷ 1 ∷ 3 ∷ []) (blank 4 no_move)
    ∷ line open_under_no_stay 511 512 (Ok (No 0)) (0 ∷ 1 ∷ 1 ∷ 2 ∷ []) (0 ∷ 1 ∷ 1 ∷ 3 ∷ []) (blank 4 no_move)
    ∷ line mixed_block 511 512 (Err (MixedStarts, 10)) (7 ∷ 7 ∷ []) (7 ∷ 7 ∷ []) (7 ∷ 7 ∷ [])
    ∷ line no_start 511 512 (Err (NoStart, 8)) (7 ∷ 7 ∷ []) (7 ∷ 7 ∷ []) (7 ∷ 7 ∷ [])
    ∷ line mixed_and_stuck 511 512 (Err (NoMove, 9)) (7 ∷ 7 ∷ []) (7 ∷ 7 ∷ []) (7 ∷ 7 ∷ [])
    ∷ line no_start_and_more 511 512 (Err (BytesAtEnd, 7)) (7 ∷ []) (7 ∷ []) (7 ∷ [])
    ∷ line bad_turn_and_more 511 512 (Err (BadState, 5)) (7 ∷ []) (7 ∷ []) (7 ∷ [])
    ∷ line two_bad_records 511 512 (Err (BadState, 5)) (7 ∷ 7 ∷ []) (7 ∷ 7 ∷ []) (7 ∷ 7 ∷ [])
    ∷ line bad_head_and_turn 511 512 (Err (BadHead, 4)) (7 ∷ []) (7 ∷ []) (7 ∷ [])
    ∷ line state_for_move 511 512 (Err (OtherRecord, 3)) (7 ∷ []) (7 ∷ []) (7 ∷ [])
    ∷ line long_head 511 512 (Err (OtherRecord, 3)) [] [] []
    ∷ line three_in_a_row 511 512 (Ok (Yes (state_no 0) 0)) (2 ∷ 2 ∷ 2 ∷ []) (0 ∷ 1 ∷ 2 ∷ []) (1 ∷ 2 ∷ no_move ∷ [])
    ∷ []
