-- The file of an accepted game is made of bytes.
use mathlib.Core.Logic.{⊎_elim}
use Prim.Native.Nat.{ℕ, ◌<◌, ◌≤◌}
use native.Mathlib.Omega.{arith}
use lib.ListN.{length, get_or-eq_default}
use Rattle.arena.proofs.Tests.{is_true}
use Rattle.arena.proofs.Loops.{le_or_lt}
use Rattle.game.specs.Game.{turn_at}
use Rattle.game.specs.Accepted.{AcceptedGame}
use Rattle.game.specs.declared.Game.{Game}
use Rattle.file.specs.Layout.{byte, Bytes}
use Rattle.encoding.specs.Encode.{two_bytes, framed, head_record, state_record, move_record, file_of}
use Rattle.file.proofs.Sound.{within_high}
use Rattle.encoding.proofs.Places.{◌and◌, done, below, head_of, state_of, move_of, each_byte}

module _ (g : Game) (ok : AcceptedGame g) where
  head_small : (j : ℕ) → j < 10 → byte (head_of g) j < 256
  unfolding head_record framed two_bytes
  head_small =
      let objective : g.objective ≤ 2 = within_high 1 2 g.objective (is_true _ ok.objective-known) in
      below _ 10 (omega arith and omega arith and omega arith and omega arith and omega arith and done)

  state_small : (s : ℕ) → s < g.states → (j : ℕ) → j < 8 → byte (state_of g s) j < 256
  unfolding state_record framed two_bytes
  state_small s l =
      let turn : turn_at g s ≤ 2 = within_high 1 2 (turn_at g s) (is_true _ (ok.turn-known s l)) in
      below _ 8
      (omega arith and omega arith and omega (arith, ok.marks_high s l) and omega (arith, ok.block-below s l) and done)

  move_small : (k : ℕ) → k < g.moves → (j : ℕ) → j < 8 → byte (move_of g k) j < 256
  unfolding move_record framed two_bytes
  move_small k l =
      below _ 8 (omega arith and omega arith and omega (arith, ok.from-state k l) and omega (arith, ok.to-state k l) and done)

  -- 01, 'Game file': every number of the file is a byte
  pub file-bytes : Bytes (file_of g)
  file-bytes i =
      ⊎_elim (λ (past : length (file_of g) ≤ i). rw (get_or-eq_default (file_of g) 0 past) (omega arith)) (λ (l : i < length (file_of g)). each_byte g (λ i b. b < 256) head_small state_small move_small i l)
      (le_or_lt (length (file_of g)) i)
