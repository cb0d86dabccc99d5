-- The file both ways: accepted files are exactly the files of accepted games, one to one; and the exchange of files.
use Rattle.std.specs.Prelude.{ℕ, ◌≡◌, List, length}
use Rattle.game.specs.Accepted.{AcceptedGame}
use Rattle.game.specs.Tidy.{Tidy}
use Rattle.game.specs.declared.Game.{Game}
use Rattle.file.specs.Layout.{Bytes}
use Rattle.encoding.specs.Encode.{file_of}
use Rattle.file.specs.Refusals.{refusal}
use Rattle.decoding.specs.Decode.{game_of}
use Rattle.exchange.specs.Exchange.{exchanged_file}

-- 01, 'Game file': what is promised of every accepted file, and of the game g that decoding makes of it
pub record FileOfGame (f : List ℕ) (g : Game) : Type 0 where
  pub accepted : AcceptedGame g
  pub tidy : Tidy g
  pub same-file : file_of g ≡ f

-- 01, 'Game file': the file of an accepted game is accepted, and says that game
pub record GameOfFile (g : Game) : Type 0 where
  pub bytes : Bytes (file_of g)
  pub accepted : refusal (file_of g) ≡ 0
  pub same-game : game_of (file_of g) ≡ g

-- 01, 'What is handed back': the exchange of an accepted file is accepted, as long, and done twice gives the first bytes
pub record ExchangedFile (f : List ℕ) : Type 0 where
  pub accepted : refusal (exchanged_file f) ≡ 0
  pub same_length : length (exchanged_file f) ≡ length f
  pub twice : exchanged_file (exchanged_file f) ≡ f
