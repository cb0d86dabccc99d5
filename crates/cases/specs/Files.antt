-- 01, 'Sheet of cases': the files of P1 to P10, record by record; and those that tell each choice that 01 makes.
use Rattle.std.specs.Prelude.{ℕ, List, [], ◌∷◌, ◌++◌}
use Rattle.encoding.specs.Encode.{head_record, state_record, move_record}

-- 01, 'Sheet of cases': M's states, and its moves but for 0→1
states_m : List ℕ
unfolding state_record
states_m = state_record 1 1 0 ++ state_record 2 0 1 ++ state_record 2 0 1 ++ state_record 1 2 3 ++ state_record 1 0 4

later_m : List ℕ
unfolding move_record
later_m = move_record 0 2 ++ move_record 1 3 ++ move_record 2 3 ++ move_record 2 4 ++ move_record 3 3 ++ move_record 4 4

-- P1 and P2: M
unfoldable pub game_m : List ℕ
unfolding head_record states_m move_record later_m
game_m = head_record 5 7 1 ++ states_m ++ move_record 0 1 ++ later_m

-- P3: M without 0→1
unfoldable pub game_p3 : List ℕ
unfolding head_record states_m later_m
game_p3 = head_record 5 6 1 ++ states_m ++ later_m

-- P4: M exchanged
unfoldable pub game_p4 : List ℕ
unfolding head_record state_record move_record later_m
game_p4 = head_record 5 7 2 ++ state_record 2 3 0 ++ state_record 1 2 1 ++ state_record 1 2 1 ++ state_record 2 0 3 ++ state_record 2 2 4 ++ move_record 0 1 ++ later_m

-- P5: one state, side 1, start and target, 0→0, reach
unfoldable pub game_p5 : List ℕ
unfolding head_record state_record move_record
game_p5 = head_record 1 1 1 ++ state_record 1 3 0 ++ move_record 0 0

-- P6: the same, not target
unfoldable pub game_p6 : List ℕ
unfolding head_record state_record move_record
game_p6 = head_record 1 1 1 ++ state_record 1 1 0 ++ move_record 0 0

-- P7: P5 with stay
unfoldable pub game_p7 : List ℕ
unfolding head_record state_record move_record
game_p7 = head_record 1 1 2 ++ state_record 1 3 0 ++ move_record 0 0

-- P8: sides all 1; 0 and 1 are starts in one block; 0→2, 1→3, 2→2, 3→3; target 2; reach
unfoldable pub game_p8 : List ℕ
unfolding head_record state_record move_record
game_p8 = head_record 4 4 1 ++ state_record 1 1 0 ++ state_record 1 1 0 ++ state_record 1 2 2 ++ state_record 1 0 3 ++ move_record 0 2 ++ move_record 1 3 ++ move_record 2 2 ++ move_record 3 3

-- P9: five states, all side 1 but state_record 2; start 0; target 3; blocks as in M; 0→1, 1→3, 2→4, 3→3, 4→4; reach
unfoldable pub game_p9 : List ℕ
unfolding head_record state_record move_record
game_p9 = head_record 5 5 1 ++ state_record 1 1 0 ++ state_record 1 0 1 ++ state_record 2 0 1 ++ state_record 1 2 3 ++ state_record 1 0 4 ++ move_record 0 1 ++ move_record 1 3 ++ move_record 2 4 ++ move_record 3 3 ++ move_record 4 4

-- P10: the empty file, and a good head alone
unfoldable pub empty_file : List ℕ
empty_file = []

unfoldable pub head_alone : List ℕ
unfolding head_record
head_alone = head_record 5 7 1

-- ## Choices

-- two border blocks, {1, 2} and {3, 4}, and with one of them split a sure state outside the target, 1, under OPEN: 0→2, 0→4, 1→6, 2→5,
-- 3→6, 4→5; side 1 everywhere; start 0; target 6; reach
unfoldable pub two_borders : List ℕ
two_borders =
    head_record 7 8 1
    ++ state_record 1 1 0 ++ state_record 1 0 1 ++ state_record 1 0 1 ++ state_record 1 0 3 ++ state_record 1 0 3 ++ state_record 1 0 5 ++ state_record 1 2 6
    ++ move_record 0 2 ++ move_record 0 4 ++ move_record 1 6 ++ move_record 2 5 ++ move_record 3 6 ++ move_record 4 5 ++ move_record 5 5 ++ move_record 6 6

-- two sure starts, 0 and 1, two good successors of 0, and a state of side 1, 4, that is open under YES: 0→2, 0→3, 1→3, 4→2, 5→6; side 1
-- everywhere; blocks {4, 5} and single ones; target 2 and 3; reach
unfoldable pub two_starts : List ℕ
two_starts =
    head_record 7 8 1
    ++ state_record 1 1 0 ++ state_record 1 1 1 ++ state_record 1 2 2 ++ state_record 1 2 3 ++ state_record 1 0 4 ++ state_record 1 0 4 ++ state_record 1 0 6
    ++ move_record 0 2 ++ move_record 0 3 ++ move_record 1 3 ++ move_record 2 2 ++ move_record 3 3 ++ move_record 4 2 ++ move_record 5 6 ++ move_record 6 6

-- a block of three, {1, 2, 3}, of side 2, with two members in the forced-step set, and two never successors of 3: 0→3, 1→4, 2→4, 3→5, 3→6;
-- the others side 1; start 0; target 4; reach
unfoldable pub block_of_three : List ℕ
block_of_three =
    head_record 7 8 1
    ++ state_record 1 1 0 ++ state_record 2 0 1 ++ state_record 2 0 1 ++ state_record 2 0 1 ++ state_record 1 2 4 ++ state_record 1 0 5 ++ state_record 1 0 6
    ++ move_record 0 3 ++ move_record 1 4 ++ move_record 2 4 ++ move_record 3 5 ++ move_record 3 6 ++ move_record 4 4 ++ move_record 5 5 ++ move_record 6 6

-- an open state of side 1, 1, with a sure successor, under YES: 0→0, 1→0, 2→3; side 1 everywhere; blocks {1, 2} and single ones; start 0; target
-- 0, 1 and 2; stay
unfoldable pub open_under_yes_stay : List ℕ
open_under_yes_stay =
    head_record 4 4 2 ++ state_record 1 3 0 ++ state_record 1 2 1 ++ state_record 1 2 1 ++ state_record 1 0 3 ++ move_record 0 0 ++ move_record 1 0 ++ move_record 2 3 ++ move_record 3 3

-- an open state of side 2, 2, with a never successor, under NO: 0→0, 1→3, 2→0; {1, 2} of side 2, the others side 1; start 0; target 3; reach
unfoldable pub open_under_no_reach : List ℕ
open_under_no_reach =
    head_record 4 4 1 ++ state_record 1 1 0 ++ state_record 2 0 1 ++ state_record 2 0 1 ++ state_record 1 2 3 ++ move_record 0 0 ++ move_record 1 3 ++ move_record 2 0 ++ move_record 3 3

-- an open state of side 2, 1, with a successor that dropped out in the first pass, under NO: 0→0, 1→0, 2→3; {1, 2} of side 2, the others side 1;
-- start 0; target 1, 2 and 3; stay
unfoldable pub open_under_no_stay : List ℕ
open_under_no_stay =
    head_record 4 4 2 ++ state_record 1 1 0 ++ state_record 2 2 1 ++ state_record 2 2 1 ++ state_record 1 2 3 ++ move_record 0 0 ++ move_record 1 0 ++ move_record 2 3 ++ move_record 3 3

-- faults 10 and 11 together: a start and a target in one block
unfoldable pub mixed_block : List ℕ
mixed_block = head_record 2 2 1 ++ state_record 1 1 0 ++ state_record 1 2 0 ++ move_record 0 0 ++ move_record 1 1

-- faults 8 and 9 together: no start, and state 1 has no move
unfoldable pub no_start : List ℕ
no_start = head_record 2 1 1 ++ state_record 1 0 0 ++ state_record 1 2 1 ++ move_record 0 0

-- faults 9 and 10 together: state 1 has no move, and a block has a start and another member
unfoldable pub mixed_and_stuck : List ℕ
mixed_and_stuck = head_record 2 1 1 ++ state_record 1 1 0 ++ state_record 1 0 0 ++ move_record 0 0

-- faults 7 and 8 together: a byte at the end, and no start
unfoldable pub no_start_and_more : List ℕ
no_start_and_more = head_record 1 1 1 ++ state_record 1 0 0 ++ move_record 0 0 ++ 0 ∷ []

-- faults 5, 6 and 7 together: a bad turn, a move to no state, and a byte at the end
unfoldable pub bad_turn_and_more : List ℕ
bad_turn_and_more = head_record 1 1 1 ++ state_record 3 1 0 ++ move_record 0 1 ++ 0 ∷ []

-- faults 5 and 3 in two records: state 0 has a bad turn, and a move stands where state 1 is due
unfoldable pub two_bad_records : List ℕ
two_bad_records = head_record 2 1 1 ++ state_record 3 1 0 ++ move_record 0 0 ++ move_record 0 0

-- faults 4 and 5 together: a third objective, and a bad turn
unfoldable pub bad_head_and_turn : List ℕ
bad_head_and_turn = head_record 1 1 3 ++ state_record 3 1 0 ++ move_record 0 0

-- faults 3 and 6 in one record: a state stands where a move is due, and its numbers are those of no states
unfoldable pub state_for_move : List ℕ
state_for_move = head_record 1 1 1 ++ state_record 1 1 0 ++ state_record 1 1 5

-- faults 3 and 2 in one record: a head of another length, and without its body
unfoldable pub long_head : List ℕ
long_head = 9 ∷ 0 ∷ 1 ∷ 0 ∷ []

-- three states in a row: the plan needs states minus 1 moves
unfoldable pub three_in_a_row : List ℕ
three_in_a_row = head_record 3 3 1 ++ state_record 1 1 0 ++ state_record 1 0 1 ++ state_record 1 2 2 ++ move_record 0 1 ++ move_record 1 2 ++ move_record 2 2
