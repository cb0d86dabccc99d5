-- A file whose records have no fault is sound, and what the code reads of a sound file.
use mathlib.Core.Path.{◌≡◌, refl, sym, ◌∙◌}
use mathlib.Core.Bool.{Bool, true, false, ◌&&◌}
use mathlib.Core.List.{List}
use Prim.Native.Nat.{ℕ, ◌+◌, ◌-◌, ◌*◌, ◌≤◌, ◌<◌}
use native.Mathlib.Omega.{arith}
use lib.ListN.{length}
use lib.Dec.{leb}
use borrow.Author.Tests.{leb-true, eqb-true, ltb-true, not-true}
use Rattle.arena.specs.Sets.{some, every}
use Rattle.arena.proofs.Tests.{is_true, holds, and_l, and_r}
use Rattle.game.specs.Limits.{max_states, max_moves}
use Rattle.game.specs.Game.{within, known_objective, known_turn}
use Rattle.file.specs.Fault.{lowest}
use Rattle.file.specs.Layout.{Counted, states, moves, objective, turn, marks, block, move_at, from, to}
use Rattle.file.specs.Refusals.{head_fields, head_fault, state_fields, state_fault, ascends, move_fields, move_fault, initial, target, moved, mixed, block_fault, whole_fault, refusal}
use Rattle.file.specs.Sound.{Sound}
use Rattle.file.proofs.Laws.{then_zero, unless-zero, frame-whole, lowest-zero}

-- both parts of a passed test
pub and_first : (a b : Bool) → (a && b) ≡ true → a ≡ true
and_first a b e = is_true a (and_l a b (holds _ e))

pub and_second : (a b : Bool) → (a && b) ≡ true → b ≡ true
and_second a b e = is_true b (and_r a b (holds _ e))

pub within_low : (a b x : ℕ) → within a b x ≡ true → a ≤ x
within_low a b x e = leb-true a x (and_first (leb a x) (leb x b) e)

pub within_high : (a b x : ℕ) → within a b x ≡ true → x ≤ b
within_high a b x e = leb-true x b (and_second (leb a x) (leb x b) e)

-- ## What a head without a fault says

-- the three links of a head's fields
head_links : (f : List ℕ) → head_fault f ≡ 0
    → (within 1 max_states (states f) ≡ true) × (within 1 max_moves (moves f) ≡ true) × (known_objective (objective f) ≡ true)
unfolding head_fault head_fields
head_links f e =
    let a = then_zero _ _ (then_zero _ _ e).1 in
    let b = then_zero _ _ a.1 in
    (unless-zero _ 4 tt a.0, unless-zero _ 4 tt b.0, unless-zero _ 4 tt b.1)

module _ (f : List ℕ) (p : 0 ≡ head_fault f) where
  pub head_long : 10 ≤ length f
  unfolding head_fault
  head_long = frame-whole f 0 8 1 (sym (then_zero _ _ (sym p)).0)

  -- the numbers that it says are within the limits
  pub counted : (n m : ℕ) → n ≡ states f → m ≡ moves f → Counted f n m
  counted n m q r =
      record {
        states-said = q;
        moves-said = r;
        few-states = rw q (within_high 1 max_states _ (head_links f (sym p)).0);
        few-moves = rw r (within_high 1 max_moves _ (head_links f (sym p)).1);
      }

-- ## What records without a fault say

-- the four links of a state's fields
state_links : (f : List ℕ) → lowest (states f) (state_fault f) ≡ 0 → (s : ℕ) → s < states f
    → (known_turn (turn f s) ≡ true) × (marks f s ≤ 3) × (block f s ≤ s) × (block f (block f s) ≡ block f s)
unfolding state_fault state_fields
state_links f e s l =
    let a = then_zero _ _ (then_zero _ _ (lowest-zero (states f) (state_fault f) e s l)).1 in
    let b = then_zero _ _ a.1 in
    let c = then_zero _ _ b.1 in
    (unless-zero _ 5 tt a.0, leb-true _ _ (unless-zero _ 5 tt b.0), leb-true _ _ (unless-zero _ 5 tt c.0), eqb-true _ _ (unless-zero _ 5 tt c.1))

-- the three links of a move's fields
move_links : (f : List ℕ) → lowest (moves f) (move_fault f) ≡ 0 → (k : ℕ) → k < moves f
    → (from f k < states f) × (to f k < states f) × (ascends f k ≡ true)
unfolding move_fault move_fields
move_links f e k l =
    let a = then_zero _ _ (then_zero _ _ (lowest-zero (moves f) (move_fault f) e k l)).1 in
    let b = then_zero _ _ a.1 in
    (ltb-true _ _ (unless-zero _ 6 tt a.0), ltb-true _ _ (unless-zero _ 6 tt b.0), unless-zero _ 6 tt b.1)

module _ (f : List ℕ) (head : head_fault f ≡ 0) (ss : lowest (states f) (state_fault f) ≡ 0) (ms : lowest (moves f) (move_fault f) ≡ 0) where
  -- the last move's record is whole, and it ends where the moves end
  all-long : move_at f (moves f) ≤ length f
  unfolding move_fault move_at
  all-long =
      let some : 1 ≤ moves f = within_low 1 max_moves _ (head_links f head).1 in
      let last = lowest-zero (moves f) (move_fault f) ms (moves f - 1) (omega arith) in
      omega (arith, frame-whole f (move_at f (moves f - 1)) 6 3 (sym (then_zero _ _ last).0))

  -- no refusal from 2 to 6: the records are sound
  pub sound : Sound f
  unfolding move_at
  sound =
      record {
        some-states = within_low 1 max_states _ (head_links f head).0;
        few-states = within_high 1 max_states _ (head_links f head).0;
        some-moves = within_low 1 max_moves _ (head_links f head).1;
        few-moves = within_high 1 max_moves _ (head_links f head).1;
        objective-known = (head_links f head).2;
        states-long = omega (arith, all-long);
        long = all-long;
        turn-known = λ s l. (state_links f ss s l).0;
        marks_high = λ s l. (state_links f ss s l).1;
        below = λ s l. (state_links f ss s l).2;
        own = λ s l. (state_links f ss s l).3;
        froms = λ k l. (move_links f ms k l).0;
        tos = λ k l. (move_links f ms k l).1;
        ascending = λ k l. (move_links f ms k l).2;
      }

-- ## What an accepted file is like

-- the four links of a refusal
pub links : (f : List ℕ) → refusal f ≡ 0
    → (head_fault f ≡ 0) × (lowest (states f) (state_fault f) ≡ 0) × (lowest (moves f) (move_fault f) ≡ 0) × (whole_fault f ≡ 0)
unfolding refusal
links f e =
    let a = then_zero _ _ e in
    let b = then_zero _ _ a.1 in
    let c = then_zero _ _ b.1 in
    (a.0, b.0, c.0, c.1)

-- its records are sound; e is what a call gave
pub accepted_sound : (f : List ℕ) (e : ℕ) → e ≡ refusal f → e ≡ 0 → Sound f
accepted_sound f e p q = let l = links f (sym p ∙ q) in sound f l.0 l.1 l.2

-- the same of a file that a call found without fault
pub taken_sound : (f : List ℕ) → 0 ≡ refusal f → Sound f
taken_sound f p = accepted_sound f 0 p refl

-- what refusals 7 to 11 leave
pub record Whole (f : List ℕ) : Type 0 where
  pub ends : length f ≤ move_at f (moves f)
  pub start : some (states f) (initial f) ≡ true
  pub moving : every (states f) (moved f) ≡ true
  pub starts_apart : mixed f (initial f) ≡ false
  pub target-apart : mixed f (target f) ≡ false

pub accepted-whole : (f : List ℕ) → refusal f ≡ 0 → Whole f
unfolding whole_fault block_fault
accepted-whole f e =
    let a = then_zero _ _ (links f e).3 in
    let b = then_zero _ _ a.1 in
    let c = then_zero _ _ b.1 in
    let d = then_zero _ _ c.1 in
    record {
      ends = leb-true _ _ (unless-zero _ 7 tt a.0);
      start = unless-zero _ 8 tt b.0;
      moving = unless-zero _ 9 tt c.0;
      starts_apart = not-true _ (unless-zero _ 10 tt d.0);
      target-apart = not-true _ (unless-zero _ 11 tt d.1);
    }

-- 01, 'Game file': an accepted file is 10 + 8 × states + 8 × moves bytes long; at most 36,874
pub exact_length : (f : List ℕ) → refusal f ≡ 0 → (length f ≡ 10 + 8 * states f + 8 * moves f) × (length f ≤ 36874)
unfolding move_at
exact_length f e =
    let ok = accepted_sound f 0 (sym e) refl in
    let whole = accepted-whole f e in
    (omega (arith, ok.long, whole.ends), omega (arith, whole.ends, ok.few-states, ok.few-moves))

-- ## What the code reads of a sound file of n states and m moves

module _ (f : List ℕ) (n : ℕ) (e : n ≡ states f) (g : Sound f) where
  module _ (m : ℕ) (q : m ≡ moves f) (k i : ℕ) (l : k < m) (p : i ≡ move_at f k) where
    pub move-inside : i + 8 ≤ length f
    unfolding move_at
    move-inside = omega (arith, g.long)
