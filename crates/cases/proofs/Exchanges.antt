-- The cases of the exchange: one statement, from the bytes of each file to the answer and the output, by computation.
use mathlib.Core.Path.{◌≡◌, refl}
use mathlib.Core.List.{map}
use Rattle.arena.specs.Sets.{some, every}
use Rattle.game.specs.Rows.{tabulate, fill, blank}
use Rattle.file.specs.Fault.{unless, ◌then◌, lowest}
use Rattle.file.specs.Layout.{number_at, move_at}
use Rattle.file.specs.Refusals.{frame, head_fields, head_fault, state_fields, state_fault, pair_below, ascends, move_fields, move_fault, moved, mixed, block_fault, whole_fault, refusal}
use Rattle.decoding.specs.Decode.{turn_row, marks_row, block_row, from_row, to_row, game_of}
use Rattle.encoding.specs.Encode.{two_bytes, framed, head_record, state_record, move_record, records, file_of}
use Rattle.exchange.specs.Exchange.{exchanged_game, exchanged_file, exchange_fault, exchanged}
use Rattle.cases.specs.Files.{game_m, game_p4, game_p5, head_alone}
use Rattle.cases.specs.Exchanges.{Line, outcome, lines}

-- 01, 'What is handed back': the exchange's lines, under a single statement
pub exchanges : map (λ (l : Line). outcome l) lines ≡ map (λ (l : Line). l.wanted) lines
unfolding lines outcome game_m game_p4 game_p5 head_alone exchanged exchange_fault exchanged_file exchanged_game file_of records two_bytes framed head_record state_record move_record turn_row marks_row block_row from_row to_row game_of frame head_fields head_fault state_fields state_fault pair_below ascends move_fields move_fault moved mixed block_fault whole_fault refusal number_at move_at unless ◌then◌ lowest tabulate fill blank some every
exchanges = refl
