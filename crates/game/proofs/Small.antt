-- Where the numbers of an accepted game lie, in the form that a loop's proof can use.
use Prim.Native.Nat.{ℕ, ◌*◌, ◌<◌}
use native.Mathlib.Omega.{arith}
use mir.Syntax.{w64}
use mir.Val.{Fits}
use Rattle.game.specs.Game.{block_at, from_at, to_at}
use Rattle.game.specs.Accepted.{AcceptedGame}
use Rattle.game.specs.declared.Game.{Game}
use Rattle.game.proofs.Rows.{walk}

module _ (g : Game) (a : AcceptedGame g) where
  pub state_small : (s : ℕ) → s < g.states → s < 512
  state_small s l = omega (arith, a.few-states)

  pub move_small : (k : ℕ) → k < g.moves → k < 4096
  move_small k l = omega (arith, a.few-moves)

  pub block_small : (s : ℕ) → s < g.states → block_at g s < 512
  block_small s l = omega (arith, a.few-states, a.block-below s l)

  pub from_small : (k : ℕ) → k < g.moves → from_at g k < 512
  from_small k l = omega (arith, a.few-states, a.from-state k l)

  pub to_small : (k : ℕ) → k < g.moves → to_at g k < 512
  to_small k l = omega (arith, a.few-states, a.to-state k l)

  pub block_fits : (s : ℕ) → s < g.states → Fits w64 (block_at g s)
  block_fits s l = omega (arith, block_small s l)

  pub from_fits : (k : ℕ) → k < g.moves → Fits w64 (from_at g k)
  from_fits k l = omega (arith, from_small k l)

  pub to_fits : (k : ℕ) → k < g.moves → Fits w64 (to_at g k)
  to_fits k l = omega (arith, to_small k l)

  -- a row of 16-bit places is read at an offset of two bytes a place
  pub block_offset : (s : ℕ) → s < g.states → Fits w64 (block_at g s * 2)
  block_offset s l = omega (arith, block_small s l)

  pub from_offset : (k : ℕ) → k < g.moves → Fits w64 (from_at g k * 2)
  from_offset k l = omega (arith, from_small k l)

  pub to_offset : (k : ℕ) → k < g.moves → Fits w64 (to_at g k * 2)
  to_offset k l = omega (arith, to_small k l)

pub ruleset sweep = (state_small, move_small, block_small, from_small, to_small, block_fits, from_fits, to_fits, block_offset, from_offset, to_offset, walk)
