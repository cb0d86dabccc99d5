-- An accepted file is the file of the game that it says.
use mathlib.Core.Path.{◌≡◌, refl, sym, ◌∙◌}
use mathlib.Core.List.{List}
use Prim.Native.Nat.{ℕ, ◌+◌, ◌/◌, ◌%◌, ◌<◌}
use native.Mathlib.Nat.{add-zero}
use native.Mathlib.Omega.{arith}
use lib.Seq.{ext_get_or}
use borrow.Author.Tests.{eqb-true}
use Rattle.file.specs.Layout.{byte, Bytes, number_at, states, moves, objective, state_at, move_at}
use Rattle.encoding.specs.Encode.{two_bytes, framed, head_record, state_record, move_record, file_of}
use Rattle.file.specs.Refusals.{frame, head_fault, state_fault, move_fault, refusal}
use Rattle.file.proofs.Laws.{then_zero, unless-zero, lowest-zero}
use Rattle.file.proofs.Sound.{links, exact_length}
use Rattle.decoding.specs.Decode.{game_of}
use Rattle.decoding.proofs.GameRows.{turn_is, marks_is, block_is, from_is, to_is}
use Rattle.encoding.proofs.Places.{◌and◌, done, below, head_of, state_of, move_of, file-length, each_byte}

module _ (f : List ℕ) (small : Bytes f) where
  -- a number is its two bytes, the low one first
  two : (i j n : ℕ) → number_at f (i + j) ≡ n → (byte f (i + j) ≡ n % 256) × (byte f (i + (j + 1)) ≡ n / 256)
  unfolding number_at
  two i j n e = let z : i + (j + 1) ≡ i + j + 1 = omega arith in rw z (omega (arith, small (i + j)))

  -- a frame without a fault has the length and the kind that are due
  four : (i len kind : ℕ) → frame f i len kind ≡ 0
      → ((byte f (i + 0) ≡ len % 256) × (byte f (i + 1) ≡ len / 256)) × ((byte f (i + 2) ≡ kind % 256) × (byte f (i + 3) ≡ kind / 256))
  unfolding frame
  four i len kind e =
      let a = then_zero _ _ (then_zero _ _ e).1 in
      (two i 0 len (rw add-zero (eqb-true _ _ (unless-zero _ 3 tt a.0))), two i 2 kind (eqb-true _ _ (unless-zero _ 3 tt (then_zero _ _ a.1).0)))

  module _ (taken : refusal f ≡ 0) where
    head_bytes : (j : ℕ) → j < 10 → byte f j ≡ byte (head_of (game_of f)) j
    unfolding head_fault game_of head_record framed two_bytes
    head_bytes =
        let due = four 0 8 1 (then_zero _ _ (links f taken).0).0 in
        below _ 10 (due.0 and due.1 and two 0 4 (states f) refl and two 0 6 (moves f) refl and two 0 8 (objective f) refl and done)

    state-bytes : (s : ℕ) → s < states f → (j : ℕ) → j < 8 → byte f (state_at s + j) ≡ byte (state_of (game_of f) s) j
    unfolding state_fault state_record framed two_bytes
    state-bytes s l =
        let due = four (state_at s) 6 2 (then_zero _ _ (lowest-zero (states f) (state_fault f) (links f taken).1 s l)).0 in
        below _ 8 (due.0 and due.1 and (sym (turn_is f s l), sym (marks_is f s l)) and two (state_at s) 6 _ (sym (block_is f s l)) and done)

    move-bytes : (k : ℕ) → k < moves f → (j : ℕ) → j < 8 → byte f (move_at f k + j) ≡ byte (move_of (game_of f) k) j
    unfolding move_fault move_record framed two_bytes
    move-bytes k l =
        let due = four (move_at f k) 6 3 (then_zero _ _ (lowest-zero (moves f) (move_fault f) (links f taken).2 k l)).0 in
        below _ 8 (due.0 and due.1 and two (move_at f k) 4 _ (sym (from_is f k l)) and two (move_at f k) 6 _ (sym (to_is f k l)) and done)

    -- 01, 'Game file': an accepted file is the file of the game that its records say
    pub file_of_game : file_of (game_of f) ≡ f
    unfolding game_of move_at
    file_of_game =
        ext_get_or 0 (file_of (game_of f)) f (file-length (game_of f) ∙ sym (exact_length f taken).0)
        (λ i l. sym (each_byte (game_of f) (λ i b. byte f i ≡ b) head_bytes state-bytes move-bytes i l))
