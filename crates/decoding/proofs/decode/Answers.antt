-- `decode` meets its contract.
use Rattle.file.proofs.Sound.{taken_sound}
use Rattle.decoding.proofs.decode.Goals as goal

pub read_game-requires : goal.read_game-requires
read_game-requires c = taken_sound _ c.in_ok-first_refusal.ensures
