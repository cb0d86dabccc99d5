-- The table of proved cases: one statement, from the bytes of each file to the verdict and all three rows, by computation.
use mathlib.Core.Path.{◌≡◌, refl}
use mathlib.Core.List.{map}
use Rattle.arena.specs.Sets.{some, every, count, least}
use Rattle.arena.specs.Arena.{forced}
use Rattle.arena.specs.Passes.{grow, shrink}
use Rattle.game.specs.Rows.{tabulate, fill, blank}
use Rattle.game.specs.Game.{has_move}
use Rattle.game.specs.Published.{arena_of}
use Rattle.file.specs.Fault.{unless, ◌then◌, lowest}
use Rattle.encoding.specs.Encode.{two_bytes, framed, head_record, state_record, move_record}
use Rattle.file.specs.Layout.{number_at, move_at}
use Rattle.file.specs.Refusals.{frame, head_fields, head_fault, state_fields, state_fault, pair_below, ascends, move_fields, move_fault, moved, mixed, block_fault, whole_fault, refusal}
use Rattle.decoding.specs.Decode.{turn_row, marks_row, block_row, from_row, to_row, game_of}
use Rattle.blocks.specs.Blocks.{inside, meets, split}
use Rattle.blocks.specs.Round.{sure, possible, into_known, border, border_block, entered_sure, left_possible}
use Rattle.runs.specs.Run.{word, split_game, run, named_start}
use Rattle.solver.specs.Rules.{mark, advice, rule}
use Rattle.solver.specs.Solve.{answer_to, short_row, solve_fault, solved}
use Rattle.cases.specs.Files.{game_m, game_p3, game_p4, game_p5, game_p6, game_p7, game_p8, game_p9, empty_file, head_alone, two_borders, two_starts, block_of_three, open_under_yes_stay, open_under_no_reach, open_under_no_stay, mixed_block, no_start, mixed_and_stuck, no_start_and_more, bad_turn_and_more, two_bad_records, bad_head_and_turn, state_for_move, long_head, three_in_a_row}
use Rattle.cases.specs.Table.{Line, lent, outcome, lines}

-- 01, 'What the contracts settle': P1 to P10, and the choices, are proved as a single table under a single statement
pub table : map (λ (l : Line). outcome l.given) lines ≡ map (λ (l : Line). l.wanted) lines
unfolding lines lent outcome game_m game_p3 game_p4 game_p5 game_p6 game_p7 game_p8 game_p9 empty_file head_alone two_borders two_starts block_of_three open_under_yes_stay open_under_no_reach open_under_no_stay mixed_block no_start mixed_and_stuck no_start_and_more bad_turn_and_more two_bad_records bad_head_and_turn state_for_move long_head three_in_a_row two_bytes framed head_record state_record move_record answer_to short_row solve_fault solved named_start mark advice rule word split_game run sure possible into_known border border_block entered_sure left_possible inside meets split turn_row marks_row block_row from_row to_row game_of frame head_fields head_fault state_fields state_fault pair_below ascends move_fields move_fault moved mixed block_fault whole_fault refusal number_at move_at unless ◌then◌ lowest arena_of has_move tabulate fill blank grow shrink forced some every count least
table = refl
