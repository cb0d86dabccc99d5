-- The file of an accepted game is accepted.
use mathlib.Core.Path.{◌≡◌, refl, sym, ap, ◌∙◌}
use mathlib.Core.Bool.{true, not, ◌&&◌, or-true}
use mathlib.Core.Logic.{◌⊎◌, ⊎_elim}
use mathlib.Core.List.{List}
use Prim.Native.Nat.{ℕ, zero, suc, ◌+◌, ◌≤◌, ◌<◌}
use native.Mathlib.Nat.{add-zero}
use native.Mathlib.Omega.{arith}
use lib.ListN.{length}
use lib.Dec.{eqb}
use borrow.Author.Tests.{eq-eqb, lt-ltb}
use Rattle.arena.specs.Sets.{Set, some, every}
use Rattle.arena.proofs.Tests.{is_true}
use Rattle.arena.proofs.Loops.{some_found, some_one, every_each}
use Rattle.game.specs.Game.{known_objective, known_turn, marked, turn_at, block_at, from_at, to_at, initials, targets, has_move}
use Rattle.game.specs.Accepted.{AcceptedGame, Precise}
use Rattle.game.specs.declared.Game.{Game}
use Rattle.file.specs.Layout.{number_at, states, moves, state_at, move_at, from}
use Rattle.encoding.specs.Encode.{two_bytes, framed, head_record, state_record, move_record, file_of}
use Rattle.file.specs.Refusals.{frame, head_fields, head_fault, state_fields, state_fault, pair_below, ascends, move_fields, move_fault, initial, target, moved, mixed, block_fault, whole_fault, refusal}
use Rattle.file.proofs.Laws.{faults, then_none, zero_then, lowest-all}
use Rattle.file.proofs.Sound.{and_first}
use Rattle.file.proofs.Mixed.{mixed-none}
use Rattle.encoding.proofs.Places.{Stands, number_read, file-length, head_in, state_in}
use Rattle.encoding.proofs.FieldsRead.{states_read, moves_read, objective_read, turn_read, marks_read, block_read, move_there, from_read, to_read}

-- a record of the length and kind that are due, in a file that is long enough, has no fault in its frame
frame-none : {f : List ℕ} {i n : ℕ} {r : List ℕ} → Stands f i n r → 4 ≤ n → (len kind : ℕ) → number_at r 0 ≡ len → number_at r 2 ≡ kind → 2 ≤ len → i + 2 + len ≤ length f → 0 ≡ frame f i len kind
unfolding frame
frame-none {f} {i} h few len kind p q some l =
    let a : number_at f i ≡ len = (rw add-zero at (number_read h 0 (omega arith))) ∙ p in
    let b : number_at f (i + 2) ≡ kind = number_read h 2 (omega arith) ∙ q in
    let c : i + 4 ≤ length f = omega arith in
    search faults

-- one pair is below the next
below_is : (a b c d : ℕ) → (a < c) ⊎ ((a ≡ c) × (b < d)) → pair_below a b c d ≡ true
unfolding pair_below
below_is a b c d h =
    ⊎_elim (λ (l : a < c). rw (lt-ltb a c l) refl) (λ (w : (a ≡ c) × (b < d)). rw (eq-eqb a c w.0, lt-ltb b d w.1, or-true) refl) h

module _ (g : Game) (ok : AcceptedGame g) where
  -- ## The records

  head_frame : 0 ≡ frame (file_of g) 0 8 1
  unfolding number_at head_record framed two_bytes
  head_frame = frame-none (head_in g) (omega arith) 8 1 refl refl (omega arith) (omega (arith, file-length g))

  head_none : 0 ≡ head_fault (file_of g)
  unfolding head_fault head_fields
  head_none = then_none _ _ 0 0 head_frame refl (rw (states_read g, moves_read g, objective_read g) (search (is_true (known_objective g.objective) ok.objective-known, faults)))

  state-frame : (s : ℕ) → s < g.states → 0 ≡ frame (file_of g) (state_at s) 6 2
  unfolding number_at state_record framed two_bytes
  state-frame s l = frame-none (state_in g s l) (omega arith) 6 2 refl refl (omega arith) (omega (arith, file-length g))

  state-none : (s : ℕ) → s < g.states → 0 ≡ state_fault (file_of g) s
  unfolding state_fault state_fields
  state-none s l =
      let low : block_at g s < g.states = omega (arith, ok.block-below s l) in
      then_none _ _ 0 0 (state-frame s l) refl
      (rw (turn_read g s l, marks_read g s l, block_read g s l, block_read g (block_at g s) low)
      (search (is_true (known_turn (turn_at g s)) (ok.turn-known s l), ok.marks_high s l, ok.block-below s l, ok.block-own s l, faults)))

  move-frame : (k : ℕ) → k < g.moves → 0 ≡ frame (file_of g) (move_at (file_of g) k) 6 3
  unfolding move_at number_at move_record framed two_bytes
  move-frame k l = frame-none (move_there g k l) (omega arith) 6 3 refl refl (omega arith) (omega (arith, file-length g, states_read g))

  in_order : (k : ℕ) → k < g.moves → ascends (file_of g) k ≡ true
  unfolding ascends
  in_order zero l = refl
  in_order (suc k) l =
      let near : k < g.moves = omega arith in
      rw (from_read g k near, to_read g k near, from_read g (suc k) l, to_read g (suc k) l) (below_is _ _ _ _ (ok.ascending k l))

  move-none : (k : ℕ) → k < g.moves → 0 ≡ move_fault (file_of g) k
  unfolding move_fault move_fields
  move-none k l =
      then_none _ _ 0 0 (move-frame k l) refl
      (rw (from_read g k l, to_read g k l, states_read g) (search (ok.from-state k l, ok.to-state k l, in_order k l, faults)))

  -- ## The whole

  some-start : some (states (file_of g)) (initial (file_of g)) ≡ true
  some-start =
      let w = ok.start in
      rw (states_read g) (some_found g.states (initial (file_of g)) w.0 w.1 (ap (marked 1) (marks_read g w.0 w.1) ∙ is_true _ w.2))

  all_go_on : every (states (file_of g)) (moved (file_of g)) ≡ true
  unfolding moved has_move
  all_go_on = rw (states_read g) (every_each g.states (moved (file_of g)) (λ s l.
      let w = ok.moving s l in
      let m = some_one g.moves (λ k. eqb (from_at g k) s && eqb (to_at g k) w.0) (is_true _ w.2) in
      rw (moves_read g) (some_found g.moves (λ k. eqb (from (file_of g) k) s) m.0 m.1
      (rw (from_read g m.0 m.1) (and_first (eqb (from_at g m.0) s) (eqb (to_at g m.0) w.0) m.2)))))

  -- a set of whole blocks; X is it as the file says it, Y as the game does
  apart : (X Y : Set) → ((s : ℕ) → s < g.states → X s ≡ Y s) → Precise g Y → not (mixed (file_of g) X) ≡ true
  apart X Y same precise =
      ap not
      (sym (mixed-none (file_of g) X (λ s l.
      let l' : s < g.states = rw (states_read g) at l in
      let low : block_at g s < g.states = omega (arith, ok.block-below s l') in
      rw (block_read g s l') (same s l' ∙ precise s (block_at g s) l' low (sym (ok.block-own s l')) ∙ sym (same (block_at g s) low)))))

  ends : length (file_of g) ≤ move_at (file_of g) (moves (file_of g))
  unfolding move_at
  ends = omega (arith, file-length g, states_read g, moves_read g)

  whole-none : 0 ≡ whole_fault (file_of g)
  unfolding whole_fault block_fault
  whole-none =
      let starts = apart (initial (file_of g)) (initials g) (λ s l. ap (marked 1) (marks_read g s l)) ok.precise_starts in
      let target = apart (target (file_of g)) (targets g) (λ s l. ap (marked 2) (marks_read g s l)) ok.precise_target in
      search (ends, some-start, all_go_on, starts, target, faults)

  -- 01, 'Refusals in their order': the file of an accepted game is not refused
  pub file-accepted : refusal (file_of g) ≡ 0
  unfolding refusal
  file-accepted =
      zero_then _ _ (sym head_none)
      (zero_then _ _ (rw (states_read g) (lowest-all g.states (state_fault (file_of g)) (λ s l. sym (state-none s l))))
      (zero_then _ _ (rw (moves_read g) (lowest-all g.moves (move_fault (file_of g)) (λ k l. sym (move-none k l)))) (sym whole-none)))
