-- The bytes that the call writes, place by place, are the file of the exchanged game.
use mathlib.Core.Path.{◌≡◌, refl, sym, ◌∙◌}
use mathlib.Core.Bool.{cond}
use mathlib.Core.List.{List}
use Prim.Native.Nat.{ℕ, ◌+◌, ◌-◌, ◌*◌, ◌%◌, ◌≤◌, ◌<◌}
use native.Mathlib.Nat.{zero-add}
use native.Mathlib.Omega.{arith}
use lib.ListN.{length}
use lib.Dec.{eqb}
use borrow.Author.Tests.{ne_eqb, le-leb, lt-leb, le-ltb}
use Rattle.arena.proofs.Tests.{is_true}
use Rattle.game.specs.Rows.{fill}
use Rattle.game.specs.Accepted.{AcceptedGame}
use Rattle.game.specs.declared.Game.{Game}
use Rattle.game.proofs.Rows.{fill-row}
use Rattle.file.specs.Layout.{byte, Bytes, state_at}
use Rattle.encoding.specs.Encode.{two_bytes, framed, head_record, state_record, file_of}
use Rattle.file.specs.Refusals.{refusal}
use Rattle.decoding.specs.Decode.{game_of}
use Rattle.decoding.proofs.Accepted.{accepted-game}
use Rattle.encoding.proofs.Places.{◌and◌, done, below, head_of, state_of, head_in, state_in, move_in, each_byte}
use Rattle.encoding.proofs.FileOfGame.{file_of_game}
use Rattle.exchange.specs.Exchange.{other_turn, other_marks, exchanged_game, exchanged_file, written_over}
use Rattle.exchange.specs.Bytes.{exchanged_byte, exchanged_bytes}
use Rattle.exchange.proofs.Fields.{objective-bytes}
use Rattle.exchange.proofs.Games.{turn_changed, marks_changed}
use Rattle.exchange.proofs.ExchangedFiles.{same_length}

module _ (n : ℕ) where
  -- byte j of the record of state s
  state-byte : (s j b : ℕ) → s < n → j < 8 → exchanged_byte n (state_at s + j) b ≡ cond (eqb j 4) (other_turn b) (cond (eqb j 5) (other_marks b) b)
  unfolding exchanged_byte
  state-byte s j b l k =
      let far : state_at s + j ≡ 8 → ⊥ = λ e. omega arith in
      let late : 10 ≤ state_at s + j = omega arith in
      let inside : state_at s + j < 10 + 8 * n = omega arith in
      let place : (state_at s + j - 10) % 8 ≡ j = omega arith in
      rw (ne_eqb (state_at s + j) 8 far, le-ltb (state_at s + j) 10 late, lt-leb (10 + 8 * n) (state_at s + j) inside, place)

  -- all after the states is kept
  move-byte : (i b : ℕ) → 10 + 8 * n ≤ i → exchanged_byte n i b ≡ b
  unfolding exchanged_byte
  move-byte i b h =
      let far : i ≡ 8 → ⊥ = λ e. omega arith in
      let late : 10 ≤ i = omega arith in
      rw (ne_eqb i 8 far, le-ltb i 10 late, le-leb (10 + 8 * n) i h)

module _ (g : Game) (ok : AcceptedGame g) where
  head_bytes : (j : ℕ) → j < 10 → exchanged_byte g.states j (byte (file_of g) j) ≡ byte (head_of (exchanged_game g)) j
  unfolding exchanged_game exchanged_byte head_record framed two_bytes
  head_bytes j l =
      let o = objective-bytes g.objective (is_true _ ok.objective-known) in
      rw (rw zero-add at ((head_in g).byte_at j l))
      (below (λ j. exchanged_byte g.states j (byte (head_of g) j) ≡ byte (head_of (exchanged_game g)) j) 10
      ((refl, refl) and (refl, refl) and (refl, refl) and (refl, refl) and o and done) j l)

  state-bytes : (s : ℕ) → s < g.states → (j : ℕ) → j < 8 → exchanged_byte g.states (state_at s + j) (byte (file_of g) (state_at s + j)) ≡ byte (state_of (exchanged_game g) s) j
  unfolding exchanged_game state_record framed two_bytes
  state-bytes s l j k =
      rw ((state_in g s l).byte_at j k, state-byte g.states s j (byte (state_of g s) j) l k)
      (below (λ j. cond (eqb j 4) (other_turn (byte (state_of g s) j)) (cond (eqb j 5) (other_marks (byte (state_of g s) j)) (byte (state_of g s) j)) ≡ byte (state_of (exchanged_game g) s) j) 8
      ((refl, refl) and (refl, refl) and (sym (turn_changed g s l), sym (marks_changed g s l)) and (refl, refl) and done) j k)

  -- each byte of the file becomes one of the exchanged game's file
  byte-exchanged : (i : ℕ) → i < length (file_of (exchanged_game g)) → exchanged_byte g.states i (byte (file_of g) i) ≡ byte (file_of (exchanged_game g)) i
  unfolding exchanged_game
  byte-exchanged =
      each_byte (exchanged_game g) (λ i b. exchanged_byte g.states i (byte (file_of g) i) ≡ b) head_bytes state-bytes
      (λ k l j b. move-byte g.states _ _ (omega arith) ∙ (move_in g k l).byte_at j b)

-- 01, 'What is handed back': what the call writes is the file of the exchanged game, and the output after that keeps its content
pub bytes-written : (f out : List ℕ) → Bytes f → refusal f ≡ 0 → fill (length f) (exchanged_bytes f) out ≡ written_over (exchanged_file f) out
unfolding exchanged_file game_of
bytes-written f out small taken =
    rw (← same_length f taken)
    (fill-row (exchanged_file f) (exchanged_bytes f) 0 out (rw (file_of_game f small taken) at (byte-exchanged (game_of f) (accepted-game f taken))))
