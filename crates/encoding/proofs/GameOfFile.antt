-- The game of an accepted file is tidy, and a tidy game is the game of its file.
use mathlib.Core.Path.{◌≡◌, refl, sym, ◌∙◌}
use mathlib.Core.List.{List}
use Prim.Native.Nat.{ℕ, ◌≤◌, ◌<◌}
use Rattle.game.specs.Limits.{max_states, max_moves}
use Rattle.game.specs.Accepted.{AcceptedGame}
use Rattle.game.specs.Tidy.{Tidy}
use Rattle.game.specs.declared.Game.{Game}
use Rattle.game.proofs.Padded.{blank_padded, fill_padded, tidy-same}
use Rattle.file.specs.Layout.{states, moves}
use Rattle.encoding.specs.Encode.{file_of}
use Rattle.file.specs.Refusals.{refusal}
use Rattle.file.proofs.Sound.{accepted_sound}
use Rattle.decoding.specs.Decode.{turn_row, marks_row, block_row, from_row, to_row, game_of}
use Rattle.decoding.proofs.GameRows.{turn_is, marks_is, block_is, from_is, to_is}
use Rattle.encoding.proofs.FieldsRead.{states_read, moves_read, objective_read, turn_read, marks_read, block_read, from_read, to_read}

rows-tidy : (f : List ℕ) → states f ≤ max_states → moves f ≤ max_moves → Tidy (game_of f)
unfolding game_of turn_row marks_row block_row from_row to_row
rows-tidy f few-states few-moves =
    record {
      turns = fill_padded few-states _ blank_padded;
      all-marks = fill_padded few-states _ blank_padded;
      blocks = fill_padded few-states _ blank_padded;
      froms = fill_padded few-moves _ blank_padded;
      tos = fill_padded few-moves _ blank_padded;
    }

-- 01, 'Numbers and limits': decoding leaves nothing after the last state and the last move
pub game-tidy : (f : List ℕ) → refusal f ≡ 0 → Tidy (game_of f)
game-tidy f taken = let ok = accepted_sound f 0 (sym taken) refl in rows-tidy f ok.few-states ok.few-moves

-- 01, 'Game file': the file of an accepted tidy game says that game
pub game_of_file : (g : Game) → AcceptedGame g → Tidy g → game_of (file_of g) ≡ g
unfolding game_of
game_of_file g ok tidy =
    tidy-same (game_of (file_of g)) g (rows-tidy (file_of g) (rw states_read ok.few-states) (rw moves_read ok.few-moves)) tidy (states_read g) (moves_read g) (objective_read g)
    (λ s l.
    let l' : s < states (file_of g) = rw states_read l in
    (turn_is (file_of g) s l' ∙ turn_read g s l, marks_is (file_of g) s l' ∙ marks_read g s l, block_is (file_of g) s l' ∙ block_read g s l))
    (λ k l.
    let l' : k < moves (file_of g) = rw moves_read l in
    (from_is (file_of g) k l' ∙ from_read g k l, to_is (file_of g) k l' ∙ to_read g k l))
