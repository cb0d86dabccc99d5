-- Demand 3: exchange the sides. The exchanged game, and the file of it.
use Rattle.std.specs.Prelude.{ℕ, ◌+◌, ◌-◌, cond, List, ◌++◌, length, drop, eqb, leb, ltb, Result}
use Rattle.game.specs.Rows.{fill}
use Rattle.game.specs.Game.{turn_at, marks_at}
use Rattle.game.specs.declared.Game.{Game}
use Rattle.file.specs.declared.refusal.Refusal.{Refusal}
use Rattle.file.specs.Fault.{unless, ◌then◌, answered, kept_or}
use Rattle.encoding.specs.Encode.{file_of}
use Rattle.file.specs.Refusals.{refusal}
use Rattle.decoding.specs.Decode.{game_of}

-- the other of 1 and 2
abbrev pub other : ℕ → ℕ
other x = cond (eqb x 1) 2 1

-- demand 3: flip whose turn each state is
abbrev pub other_turn : ℕ → ℕ
other_turn t = other t

-- demand 3: turn reach into stay or stay into reach
abbrev pub other_objective : ℕ → ℕ
other_objective o = other o

-- demand 3: take the other states as target; 01, 'What is handed back': initial marks are equal
abbrev pub other_marks : ℕ → ℕ
other_marks m = cond (ltb m 2) (m + 2) (m - 2)

-- demand 3: the exchanged game; blocks and moves are equal
unfoldable pub exchanged_game : Game → Game
exchanged_game g =
    record {
      states = g.states;
      moves = g.moves;
      objective = other_objective g.objective;
      turn = fill g.states (λ s. other_turn (turn_at g s)) g.turn;
      marks = fill g.states (λ s. other_marks (marks_at g s)) g.marks;
      block = g.block;
      from = g.from;
      to = g.to;
    }

-- 01, 'What is handed back': the file of the exchanged game
unfoldable pub exchanged_file : List ℕ → List ℕ
exchanged_file f = file_of (exchanged_game (game_of f))

-- 01, 'Refusals in their order': for the exchange, 1 if the lent output is shorter than the accepted file; tested last
unfoldable pub exchange_fault : List ℕ → ℕ → ℕ
exchange_fault f room = refusal f then unless (leb (length f) room) 1

-- 01, 'What is handed back': the exchange writes a file; the output after that keeps its content
abbrev pub written_over : List ℕ → List ℕ → List ℕ
written_over file out = file ++ drop (length file) out

-- what a call of the exchange hands back: its answer, and the output
pub record Outcome : Type 0 where
  pub answer : Result ℕ Refusal
  pub output : List ℕ

-- demand 3; 01, 'What is handed back': the exchange writes the file of the exchanged game and returns its length
unfoldable pub exchanged : List ℕ → List ℕ → Outcome
exchanged f out =
    let e = exchange_fault f (length out) in
    record {
      answer = answered e (length (exchanged_file f));
      output = kept_or out e (written_over (exchanged_file f) out);
    }
