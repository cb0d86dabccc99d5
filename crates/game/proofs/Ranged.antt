-- What an accepted game has of number ranges and turns.
use native.Mathlib.Omega.{arith}
use Rattle.game.specs.Accepted.{AcceptedGame}
use Rattle.game.specs.Ranged.{Ranged}
use Rattle.game.specs.declared.Game.{Game}

-- the numbers of an accepted game are in range
pub accepted-ranged : {g : Game} → AcceptedGame g → Ranged g
accepted-ranged ok = record {
  few-states = ok.few-states;
  few-moves = ok.few-moves;
  turn-known = ok.turn-known;
  block-state = λ s l. omega (arith, ok.block-below s l);
  from-state = ok.from-state;
  to-state = ok.to-state;
}
