-- Sides and the numbers of turns.
use mathlib.Core.Path.{◌≡◌, refl}
use mathlib.Core.Logic.{◌⊎◌, inl, inr, ⊎_elim}
use Prim.Native.Nat.{ℕ, ◌≤◌, ◌<◌}
use native.Mathlib.Omega.{arith}
use lib.Dec.{T, eqb, leb, leb→le}
use Rattle.arena.specs.Arena.{other, same}
use Rattle.arena.proofs.Tests.{and_l, and_r}
use Rattle.arena.proofs.Loops.{le_or_lt}
use Rattle.game.specs.Game.{known_turn}
use Rattle.game.specs.Published.{side_of}

-- a turn that is known is 1 or 2
pub turn_cases : (a : ℕ) → T (known_turn a) → (a ≡ 1) ⊎ (a ≡ 2)
turn_cases a h =
    let low = leb→le 1 a (and_l (leb 1 a) (leb a 2) h) in
    let high = leb→le a 2 (and_r (leb 1 a) (leb a 2) h) in
    ⊎_elim (λ (l : a ≤ 1). inl (omega arith)) (λ (l : 1 < a). inr (omega arith)) (le_or_lt a 1)

-- what holds of each two of 1 and 2 holds of each two turns that are known
two-turns : (P : ℕ → ℕ → Type 0) → P 1 1 → P 1 2 → P 2 1 → P 2 2 → (a b : ℕ) → T (known_turn a) → T (known_turn b) → P a b
two-turns P x y z w a b p q =
    ⊎_elim
    (λ (d : a ≡ 1). ⊎_elim (λ (e : b ≡ 1). rw (d, e) x) (λ (e : b ≡ 2). rw (d, e) y) (turn_cases b q))
    (λ (d : a ≡ 2). ⊎_elim (λ (e : b ≡ 1). rw (d, e) z) (λ (e : b ≡ 2). rw (d, e) w) (turn_cases b q))
    (turn_cases a p)

-- of turns that are known, to be of the same side is to be equal
pub same_turn : (a b : ℕ) → T (known_turn a) → T (known_turn b) → same (side_of a) (side_of b) ≡ eqb b a
same_turn = two-turns (λ a b. same (side_of a) (side_of b) ≡ eqb b a) refl refl refl refl

-- of turns that are known and not equal, one is the other side's
pub other-turn : (a b : ℕ) → T (known_turn a) → T (known_turn b) → (a ≡ b → ⊥) → side_of b ≡ other (side_of a)
other-turn = two-turns (λ a b. (a ≡ b → ⊥) → side_of b ≡ other (side_of a)) (λ ne. absurd (ne refl)) (λ ne. refl) (λ ne. refl) (λ ne. absurd (ne refl))
