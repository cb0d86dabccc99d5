-- Laws of the moves that leave each state.
use mathlib.Core.Path.{◌≡◌, refl, sym, ap}
use mathlib.Core.Bool.{true}
use mathlib.Core.List.{List}
use mathlib.Core.Logic.{⊎_elim}
use Prim.Native.Nat.{ℕ, zero, suc, ◌+◌, ◌*◌, ◌≤◌, ◌<◌, zero-le}
use native.Mathlib.Nat.{not-suc-le-zero, le_refl}
use native.Mathlib.Decide.{le_ind}
use native.Mathlib.Numerals.{add-one}
use native.Mathlib.Omega.{arith}
use mir.Syntax.{w64}
use mir.Val.{Fits}
use lib.ListN.{length, get_or, set}
use lib.Dec.{eqb, eqb→eq}
use borrow.Author.Tests.{eq-eqb, ne_eqb}
use Rattle.arena.proofs.Sets.{meets-out}
use Rattle.arena.proofs.Loops.{le_or_lt}
use Rattle.game.specs.Limits.{max_states}
use Rattle.game.specs.Game.{from_at, to_at, has_move}
use Rattle.game.specs.Accepted.{AcceptedGame}
use Rattle.game.specs.declared.Game.{Game}
use Rattle.chains.specs.Lent.{Holds, Keys, last_of}
use Rattle.chains.proofs.Filling.{places}
use Rattle.chains.proofs.Chains.{last-le, last_is, last_none, last_cong}
use Rattle.chains.proofs.Counts.{holds_store, holds_cong}
use Rattle.rounds.specs.Search.{first_move}

-- the same moves
pub first_cong : (f h : ℕ → ℕ) (m : ℕ) → ((k : ℕ) → k < m → f k ≡ h k) → (s : ℕ) → first_move f m s ≡ first_move h m s
first_cong f h m e zero = refl
first_cong f h m e (suc s) = last_cong f h s m (λ k l. ap (λ (x : ℕ). eqb x s) (e k l))

-- a row of first moves by a row of what moves leave is one by what they leave
pub first_held : (f : ℕ → ℕ) {n m : ℕ} {from first : List ℕ} → Holds m from f → Holds (suc n) first (first_move (λ k. get_or from k 0) m) → Holds (suc n) first (first_move f m)
first_held f {n} {m} {from} h p = holds_cong p (λ s _. first_cong (λ k. get_or from k 0) f m h.cell s)

module _ (from : ℕ → ℕ) where
  -- ## The row that a walk over the moves fills

  -- no move yet
  pub first-none : {n : ℕ} {first : List ℕ} → Holds n first (λ _. 0) → Holds n first (first_move from 0)
  unfolding last_of
  first-none h = holds_cong h (λ s _. none s)
    where
      none : (s : ℕ) → 0 ≡ first_move from 0 s
      none zero = refl
      none (suc s) = refl

  -- one move more
  pub first_more : (k : ℕ) {n : ℕ} {first : List ℕ} → Holds (suc n) first (first_move from k) → from k < n → Holds (suc n) (set first (from k + 1) (k + 1)) (first_move from (k + 1))
  unfolding last_of
  first_more k {n} {first} h l = rw (add-one (from k), add-one k) (holds_store (suc (from k)) (suc k) h (omega arith) (rw (eqb_is (from k)) refl) other)
    where
      eqb_is : (s : ℕ) → eqb s s ≡ true
      eqb_is s = eq-eqb s s refl

      other : (s : ℕ) → s < suc n → (s ≡ suc (from k) → ⊥) → first_move from k s ≡ first_move from (suc k) s
      other zero _ ne = refl
      other (suc s) _ ne = rw (ne_eqb (from k) s (λ p. ne (ap suc (sym p)))) refl

-- the place after the one that a key names
module _ {n m : ℕ} {key : List ℕ} (keys : Keys n m key) (few : n ≤ max_states) (k : ℕ) (l : k < m) where
  pub next_fits : Fits w64 (get_or key k 0 + 1)
  next_fits = omega (arith, keys.below k l)

  pub next_offset : Fits w64 ((get_or key k 0 + 1) * 2)
  next_offset = omega (arith, keys.below k l)

  pub next_in : {row : List ℕ} {f : ℕ → ℕ} → Holds (suc n) row f → get_or key k 0 + 1 < length row
  next_in h = omega (arith, keys.below k l, h.long)

pub ruleset nexts = (next_fits, next_offset, next_in, places)

-- ## The moves of an accepted game

-- a number above another one is not 0
above : (v k : ℕ) → k < v → (e : ℕ) × (v ≡ suc e)
above zero k l = absurd (not-suc-le-zero l)
above (suc e) k l = (e, refl)

module _ (g : Game) (a : AcceptedGame g) where
  -- a later move leaves no lower state
  ascend : (j k : ℕ) → j ≤ k → k < g.moves → from_at g j ≤ from_at g k
  ascend j k l = le_ind (λ k. k < g.moves → from_at g j ≤ from_at g k) (λ _. le_refl (from_at g j))
      (λ k _ up m. ⊎_elim (λ lt. omega (arith, up (omega arith))) (λ w. omega (arith, up (omega arith), w.0)) (a.ascending k m)) k l

  -- each state has a move
  has_one : (s : ℕ) → s < g.states → (k : ℕ) × (k < g.moves) × (from_at g k ≡ s)
  unfolding has_move
  has_one s l =
      let w = a.moving s l in
      let v = meets-out g.moves (λ k. eqb (from_at g k) s) (λ k. eqb (to_at g k) w.0) w.2 in
      (v.0, v.1, eqb→eq (from_at g v.0) s v.2)

  -- a move before those of s does not leave s
  pub before_first : (s k : ℕ) → k < first_move (from_at g) g.moves s → from_at g k ≡ s → ⊥
  before_first zero k l e = not-suc-le-zero l
  before_first (suc s) k l e =
      let w = above (last_of (from_at g) g.moves s) k l in
      let low = ascend k w.0 (omega (arith, w.1)) (omega (arith, w.1, last-le (from_at g) g.moves s)) in
      omega (arith, last_is (from_at g) g.moves s w.0 w.1)

  -- one that is not before them leaves no lower state
  not_before : (s k : ℕ) → s < g.states → k < g.moves → first_move (from_at g) g.moves s ≤ k → s ≤ from_at g k
  not_before zero k l m low = zero-le
  not_before (suc s) k l m low =
      let one = has_one s (omega arith) in
      let some = ⊎_elim (λ (le : last_of (from_at g) g.moves s ≤ one.0). absurd (last_none (from_at g) g.moves s one.0 le one.1 one.2)) (λ (lt : one.0 < last_of (from_at g) g.moves s). lt) (le_or_lt (last_of (from_at g) g.moves s) one.0) in
      let w = above (last_of (from_at g) g.moves s) one.0 some in
      let up = ascend w.0 k (omega (arith, w.1)) m in
      let other : from_at g k ≡ s → ⊥ = last_none (from_at g) g.moves s k low m in
      omega (arith, last_is (from_at g) g.moves s w.0 w.1)

  -- those of s leave s
  pub between_first : (s k : ℕ) → s < g.states → first_move (from_at g) g.moves s ≤ k → k < first_move (from_at g) g.moves (suc s) → from_at g k ≡ s
  between_first s k l low high =
      let w = above (last_of (from_at g) g.moves s) k high in
      let few = last-le (from_at g) g.moves s in
      let most = ascend k w.0 (omega (arith, w.1)) (omega (arith, w.1)) in
      omega (arith, last_is (from_at g) g.moves s w.0 w.1, not_before s k l (omega arith) low)
