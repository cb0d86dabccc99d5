-- The forced-step set, as a walk over the moves finds it.
use mathlib.Core.Path.{◌≡◌, refl, subst}
use mathlib.Core.Bool.{Bool, true, false, not, ◌&&◌, ◌||◌, cond}
use Prim.Native.Nat.{ℕ, ◌+◌, ◌<◌}
use lib.Dec.{T, eqb, eqb→eq, eqb_refl}
use borrow.Author.Tests.{ne_eqb}
use Rattle.arena.specs.Sets.{Set, imp, some, every}
use Rattle.arena.specs.Arena.{forced}
use Rattle.arena.proofs.Tests.{T_ext}
use Rattle.arena.proofs.Sets.{meets_in, meets-out, within_in, within-out}
use Rattle.arena.proofs.Loops.{some-zero, every-zero, some_more, every_more}
use Rattle.game.specs.Game.{known_turn, turn_at, from_at, to_at, has_move}
use Rattle.game.specs.Published.{side_of, arena_of}
use Rattle.game.specs.Ranged.{Ranged}
use Rattle.game.proofs.Turns.{same_turn}
use Rattle.game.specs.declared.Game.{Game}

module _ (g : Game) where
  -- move k goes from s into X
  abbrev pub leads : Set → ℕ → Set
  leads X s k = eqb (from_at g k) s && X (to_at g k)

  -- move k goes from s into X, if it goes from s
  abbrev pub keeps : Set → ℕ → Set
  keeps X s k = imp (eqb (from_at g k) s) (X (to_at g k))

  -- what the first k moves tell of s: one of them leads into X, or none leads out of it
  unfoldable pub seen : ℕ → Set → ℕ → ℕ → Bool
  seen side X k s = cond (eqb (turn_at g s) side) (some k (leads X s)) (every k (keeps X s))

  -- no move is seen yet
  pub seen_none : (side : ℕ) (X : Set) (s : ℕ) → not (eqb (turn_at g s) side) ≡ seen side X 0 s
  unfolding seen
  seen_none side X s = rw (some-zero, every-zero) (go (eqb (turn_at g s) side))
    where
      go : (b : Bool) → not b ≡ cond b false true
      go true = refl
      go false = refl

  -- one move more, of another state
  pub seen_same : (side : ℕ) (X : Set) (k s : ℕ) → (from_at g k ≡ s → ⊥) → seen side X k s ≡ seen side X (k + 1) s
  unfolding seen
  seen_same side X k s ne = rw (some_more, every_more, ne_eqb _ _ ne) (go (eqb (turn_at g s) side) (some k (leads X s)) (every k (keeps X s)))
    where
      go : (own a b : Bool) → cond own a b ≡ cond own (a || false) (b && true)
      go true true b = refl
      go true false b = refl
      go false a true = refl
      go false a false = refl

  module _ (a : Ranged g) where
    -- a move into X is one of the moves that the game lists
    some-moves : (X : Set) (s : ℕ) → some g.states (λ t. has_move g s t && X t) ≡ some g.moves (leads X s)
    unfolding has_move
    some-moves X s = T_ext _ _
        (λ h. let w = meets-out g.states (has_move g s) X h in
        let v = meets-out g.moves (λ k. eqb (from_at g k) s) (λ k. eqb (to_at g k) w.0) w.2 in
        meets_in g.moves (λ k. eqb (from_at g k) s) (λ k. X (to_at g k)) v.0 v.1 v.2 (rw (eqb→eq (to_at g v.0) w.0 v.3) w.3))
        (λ h. let w = meets-out g.moves (λ k. eqb (from_at g k) s) (λ k. X (to_at g k)) h in
        meets_in g.states (has_move g s) X (to_at g w.0) (a.to-state w.0 w.1)
        (meets_in g.moves (λ k. eqb (from_at g k) s) (λ k. eqb (to_at g k) (to_at g w.0)) w.0 w.1 w.2 (eqb_refl (to_at g w.0))) w.3)

    -- all moves go into X where all that the game lists do
    every-move : (X : Set) (s : ℕ) → every g.states (λ t. imp (has_move g s t) (X t)) ≡ every g.moves (keeps X s)
    unfolding has_move
    every-move X s = T_ext _ _
        (λ h. within_in g.moves (λ k. eqb (from_at g k) s) (λ k. X (to_at g k)) (λ k l e.
        within-out g.states (has_move g s) X h (to_at g k) (a.to-state k l)
        (meets_in g.moves (λ j. eqb (from_at g j) s) (λ j. eqb (to_at g j) (to_at g k)) k l e (eqb_refl (to_at g k)))))
        (λ h. within_in g.states (has_move g s) X (λ t l m.
        let v = meets-out g.moves (λ k. eqb (from_at g k) s) (λ k. eqb (to_at g k) t) m in
        subst (λ u. T (X u)) (eqb→eq (to_at g v.0) t v.3)
        (within-out g.moves (λ k. eqb (from_at g k) s) (λ k. X (to_at g k)) h v.0 v.1 v.2)))

    -- all moves seen: the forced-step set
    pub seen_all : (side : ℕ) → T (known_turn side) → (X : Set) (s : ℕ) → s < g.states → seen side X g.moves s ≡ forced (arena_of g) (side_of side) X s
    unfolding seen forced arena_of
    seen_all side h X s l =
        rw (some-moves X s, every-move X s, same_turn side (turn_at g s) h (a.turn-known s l)) refl
