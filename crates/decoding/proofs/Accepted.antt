-- The game of an accepted file is an accepted game: all that callers may count on, proved once.
use mathlib.Core.Path.{◌≡◌, refl, sym, ap, ◌∙◌}
use mathlib.Core.Bool.{true, false, ◌&&◌}
use mathlib.Core.Logic.{◌⊎◌, inl, inr, ⊎_elim}
use mathlib.Core.List.{List}
use Prim.Native.Nat.{ℕ, suc, ◌<◌}
use native.Mathlib.Omega.{arith}
use lib.Dec.{T, eqb, ltb, eqb→eq, ltb→lt}
use borrow.Author.Tests.{eq-eqb}
use Rattle.arena.specs.Sets.{Set}
use Rattle.arena.proofs.Tests.{holds, and_l, and_r, or_elim}
use Rattle.arena.proofs.Loops.{some_found, some_one, every_one}
use Rattle.game.specs.Game.{from_at, to_at, initials, targets, has_move}
use Rattle.std.specs.Prelude.{◌≤◌, Result, Ok, Err}
use Rattle.game.specs.declared.Game.{Game}
use Rattle.file.specs.declared.refusal.Refusal.{Refusal}
use Rattle.file.specs.Number.{refused}
use Rattle.game.specs.Accepted.{AcceptedGame, Precise, Ascending}
use Rattle.file.specs.Layout.{states, moves, block, from, to}
use Rattle.file.specs.Refusals.{pair_below, ascends, initial, target, moved, mixed, refusal}
use Rattle.file.specs.Sound.{Sound}
use Rattle.file.proofs.Numbers.{answered_cases}
use Rattle.file.proofs.Sound.{accepted_sound, Whole, accepted-whole}
use Rattle.file.proofs.Mixed.{uniform}
use Rattle.decoding.specs.Decode.{game_of, decoded}
use Rattle.decoding.proofs.GameRows.{turn_is, marks_is, block_is, from_is, to_is, initial_is, target_is}

below_cases : (a b c d : ℕ) → pair_below a b c d ≡ true → (a < c) ⊎ ((a ≡ c) × (b < d))
unfolding pair_below
below_cases a b c d e =
    or_elim (ltb a c) (eqb a c && ltb b d) (λ h. inl (ltb→lt a c h))
    (λ h. inr (eqb→eq a c (and_l (eqb a c) (ltb b d) h), ltb→lt b d (and_r (eqb a c) (ltb b d) h))) (holds _ e)

module _ (f : List ℕ) (ok : Sound f) (whole : Whole f) where
  -- the pairs ascend
  in_order : Ascending (game_of f)
  unfolding game_of ascends
  in_order k l =
      let near : k < moves f = omega arith in
      rw (from_is f k near, from_is f (suc k) l, to_is f k near, to_is f (suc k) l)
      (below_cases (from f k) (to f k) (from f (suc k)) (to f (suc k)) (ok.ascending (suc k) l))

  -- a state's move, by the number of its record
  goes_on : (s : ℕ) → s < states f → (t : ℕ) × (t < states f) × T (has_move (game_of f) s t)
  unfolding game_of has_move moved
  goes_on s l =
      let w = some_one (moves f) (λ k. eqb (from f k) s) (every_one (states f) (moved f) whole.moving s l) in
      let k = w.0 in
      let found = some_found (moves f) (λ j. eqb (from_at (game_of f) j) s && eqb (to_at (game_of f) j) (to f k)) k w.1
      (rw (from_is f k w.1, to_is f k w.1, w.2, eq-eqb (to f k) (to f k) refl) refl) in
      (to f k, ok.tos k w.1, rw found tt)

  -- no block straddles a set of whole blocks
  precise : (X Y : Set) → ((s : ℕ) → s < states f → Y s ≡ X s) → mixed f X ≡ false → Precise (game_of f) Y
  unfolding game_of
  precise X Y same apart s t ls lt e =
      let blocks : block f s ≡ block f t = sym (block_is f s ls) ∙ e ∙ block_is f t lt in
      same s ls ∙ uniform f X ok apart s ls ∙ ap X blocks ∙ sym (uniform f X ok apart t lt) ∙ sym (same t lt)

  game-accepted : AcceptedGame (game_of f)
  unfolding game_of
  game-accepted =
      record {
        some-states = ok.some-states;
        few-states = ok.few-states;
        some-moves = ok.some-moves;
        few-moves = ok.few-moves;
        objective-known = rw ok.objective-known tt;
        turn-known = λ s l. rw (turn_is f s l, ok.turn-known s l) tt;
        marks_high = λ s l. rw (marks_is f s l) (ok.marks_high s l);
        block-below = λ s l. rw (block_is f s l) (ok.below s l);
        block-own = λ s l. let low : block f s < states f = omega (arith, ok.below s l) in rw (block_is f s l, block_is f (block f s) low) (ok.own s l);
        from-state = λ k l. rw (from_is f k l) (ok.froms k l);
        to-state = λ k l. rw (to_is f k l) (ok.tos k l);
        ascending = in_order;
        moving = goes_on;
        start = (let w = some_one (states f) (initial f) whole.start in (w.0, w.1, rw (initial_is f w.0 w.1, w.2) tt));
        precise_starts = precise (initial f) (initials (game_of f)) (initial_is f) whole.starts_apart;
        precise_target = precise (target f) (targets (game_of f)) (target_is f) whole.target-apart;
      }

-- the game of an accepted file is accepted
pub accepted-game : (f : List ℕ) → refusal f ≡ 0 → AcceptedGame (game_of f)
accepted-game f e = game-accepted f (accepted_sound f 0 (sym e) refl) (accepted-whole f e)

-- demand 1: what a caller of `decode` learns of an accepted file
pub decoded-accepted : (f : List ℕ) (g : Game) → Ok g ≡ decoded f → (refusal f ≡ 0) × (g ≡ game_of f) × AcceptedGame g
unfolding decoded
decoded-accepted f g p =
    ⊎_elim
    (λ (w : (refusal f ≡ 0) × (◌≡◌ {A = Result Game Refusal} (Ok g) (Ok (game_of f)))).
    let same : g ≡ game_of f = cc w.1 in (w.0, same, rw same (accepted-game f w.0)))
    (λ (w : (1 ≤ refusal f) × (◌≡◌ {A = Result Game Refusal} (Ok g) (Err (refused (refusal f))))). let z : ◌≡◌ {A = ℕ} 0 1 = cc w.1 in absurd (omega arith))
    (answered_cases (game_of f) (refusal f) (Ok g) p)
