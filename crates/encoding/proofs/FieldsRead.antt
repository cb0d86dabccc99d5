-- What is read of the file of a game: the fields of the game.
use mathlib.Core.Path.{◌≡◌, ◌∙◌}
use Prim.Native.Nat.{ℕ, ◌<◌}
use native.Mathlib.Nat.{mod-add-div}
use native.Mathlib.Omega.{arith}
use Rattle.game.specs.Game.{turn_at, marks_at, block_at, from_at, to_at}
use Rattle.game.specs.declared.Game.{Game}
use Rattle.file.specs.Layout.{number_at, states, moves, objective, turn, marks, block, move_at, from, to}
use Rattle.encoding.specs.Encode.{two_bytes, framed, head_record, state_record, move_record, file_of}
use Rattle.encoding.proofs.Places.{Stands, number_read, move_of, head_in, state_in, move_in}

module _ (g : Game) where
  pub states_read : states (file_of g) ≡ g.states
  unfolding number_at head_record framed two_bytes
  states_read = number_read (head_in g) 4 (omega arith) ∙ mod-add-div g.states 256

  pub moves_read : moves (file_of g) ≡ g.moves
  unfolding number_at head_record framed two_bytes
  moves_read = number_read (head_in g) 6 (omega arith) ∙ mod-add-div g.moves 256

  pub objective_read : objective (file_of g) ≡ g.objective
  unfolding number_at head_record framed two_bytes
  objective_read = number_read (head_in g) 8 (omega arith) ∙ mod-add-div g.objective 256

  module _ (s : ℕ) (l : s < g.states) where
    pub turn_read : turn (file_of g) s ≡ turn_at g s
    unfolding state_record framed two_bytes
    turn_read = (state_in g s l).byte_at 4 (omega arith)

    pub marks_read : marks (file_of g) s ≡ marks_at g s
    unfolding state_record framed two_bytes
    marks_read = (state_in g s l).byte_at 5 (omega arith)

    pub block_read : block (file_of g) s ≡ block_at g s
    unfolding number_at state_record framed two_bytes
    block_read = number_read (state_in g s l) 6 (omega arith) ∙ mod-add-div (block_at g s) 256

  module _ (k : ℕ) (l : k < g.moves) where
    -- the record of a move stands where the file says that it does
    pub move_there : Stands (file_of g) (move_at (file_of g) k) 8 (move_of g k)
    unfolding move_at
    move_there = rw states_read (move_in g k l)

    pub from_read : from (file_of g) k ≡ from_at g k
    unfolding number_at move_record framed two_bytes
    from_read = number_read move_there 4 (omega arith) ∙ mod-add-div (from_at g k) 256

    pub to_read : to (file_of g) k ≡ to_at g k
    unfolding number_at move_record framed two_bytes
    to_read = number_read move_there 6 (omega arith) ∙ mod-add-div (to_at g k) 256
