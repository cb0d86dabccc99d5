-- The exchanged file of an accepted file: accepted, as long, and exchanged again the first bytes.
use mathlib.Core.Path.{◌≡◌, sym, ap, ◌∙◌}
use mathlib.Core.List.{List}
use Prim.Native.Nat.{ℕ}
use lib.ListN.{length}
use Rattle.game.specs.Accepted.{AcceptedGame}
use Rattle.file.specs.Layout.{Bytes}
use Rattle.encoding.specs.Encode.{file_of}
use Rattle.file.specs.Refusals.{refusal}
use Rattle.file.proofs.Sound.{exact_length}
use Rattle.decoding.specs.Decode.{game_of}
use Rattle.decoding.proofs.Accepted.{accepted-game}
use Rattle.encoding.proofs.Places.{file-length}
use Rattle.encoding.proofs.FileOfGame.{file_of_game}
use Rattle.encoding.proofs.GameOfFile.{game-tidy, game_of_file}
use Rattle.encoding.proofs.FileAccepted.{file-accepted}
use Rattle.exchange.specs.Exchange.{exchanged_game, exchanged_file}
use Rattle.exchange.proofs.Games.{exchanged-tidy, exchanged-game-accepted, exchanged-game-twice}

module _ (f : List ℕ) (taken : refusal f ≡ 0) where
  ok : AcceptedGame (game_of f)
  ok = accepted-game f taken

  -- demand 3: the exchanged file is accepted
  pub exchanged-accepted : refusal (exchanged_file f) ≡ 0
  unfolding exchanged_file
  exchanged-accepted = file-accepted (exchanged_game (game_of f)) (exchanged-game-accepted (game_of f) ok)

  -- demand 3: its game is the exchanged game
  pub exchanged-game : game_of (exchanged_file f) ≡ exchanged_game (game_of f)
  unfolding exchanged_file
  exchanged-game =
      game_of_file (exchanged_game (game_of f)) (exchanged-game-accepted (game_of f) ok) (exchanged-tidy (game_of f) ok.few-states (game-tidy f taken))

  -- 01, 'What is handed back': length is equal
  pub same_length : length (exchanged_file f) ≡ length f
  unfolding exchanged_file exchanged_game game_of
  same_length = file-length (exchanged_game (game_of f)) ∙ sym (exact_length f taken).0

  -- 01, 'What is handed back': done twice it gives the first bytes
  pub exchanged-twice : Bytes f → exchanged_file (exchanged_file f) ≡ f
  unfolding exchanged_file
  exchanged-twice small =
      ap file_of (ap exchanged_game exchanged-game ∙ exchanged-game-twice (game_of f) ok (game-tidy f taken)) ∙ file_of_game f small taken
