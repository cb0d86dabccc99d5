-- The file both ways holds of every byte string and every accepted game.
use Prim.Native.Nat.{ℕ}
use mathlib.Core.Path.{◌≡◌}
use mathlib.Core.List.{List}
use Rattle.game.specs.Accepted.{AcceptedGame}
use Rattle.game.specs.Tidy.{Tidy}
use Rattle.game.specs.declared.Game.{Game}
use Rattle.file.specs.Layout.{Bytes}
use Rattle.file.specs.Refusals.{refusal}
use Rattle.decoding.specs.Decode.{game_of}
use Rattle.decoding.proofs.Accepted.{accepted-game}
use Rattle.encoding.proofs.FileOfGame.{file_of_game}
use Rattle.encoding.proofs.GameOfFile.{game-tidy, game_of_file}
use Rattle.encoding.proofs.FileAccepted.{file-accepted}
use Rattle.encoding.proofs.FileBytes.{file-bytes}
use Rattle.exchange.proofs.ExchangedFiles.{exchanged-accepted, same_length, exchanged-twice}
use Rattle.demands.specs.Files.{FileOfGame, GameOfFile, ExchangedFile}

pub accepted-file : (f : List ℕ) → Bytes f → refusal f ≡ 0 → FileOfGame f (game_of f)
accepted-file f small taken = record { accepted = accepted-game f taken; tidy = game-tidy f taken; same-file = file_of_game f small taken }

pub accepted_games_file : (g : Game) → AcceptedGame g → Tidy g → GameOfFile g
accepted_games_file g ok tidy = record { bytes = file-bytes g ok; accepted = file-accepted g ok; same-game = game_of_file g ok tidy }

pub exchanged-file : (f : List ℕ) → Bytes f → refusal f ≡ 0 → ExchangedFile f
exchanged-file f small taken = record { accepted = exchanged-accepted f taken; same_length = same_length f taken; twice = exchanged-twice f taken small }
