-- The lowest member of a set, as a search that counts upward meets it.
use mathlib.Core.Path.{◌≡◌, refl, sym}
use mathlib.Core.Bool.{true, false}
use Prim.Native.Nat.{ℕ, zero, suc, ◌≤◌, ◌<◌, zero-le, suc-le-suc}
use native.Mathlib.Nat.{le_refl}
use native.Mathlib.Omega.{arith, by_contra}
use lib.Dec.{T}
use Rattle.arena.specs.Sets.{Set, some, least}
use Rattle.arena.proofs.Tests.{holds, fails, is_false, cond_ind}
use Rattle.arena.proofs.Sets.{some_intro, least_in, least-le, least_hit, least-some}
use Rattle.arena.proofs.Loops.{some-done}

-- the lowest member below n is at most n
least_bound : (n : ℕ) (X : Set) → least n X ≤ n
unfolding least
least_bound zero X = le_refl 0
least_bound (suc n) X =
    cond_ind (λ k. k ≤ suc n) (X zero) zero (suc (least n (λ s. X (suc s)))) (λ h. zero-le)
    (λ o. suc-le-suc (least_bound n (λ s. X (suc s))))

-- where none below s is a member, the lowest is not below s
least_above : (n s : ℕ) (X : Set) → s ≤ n → some s X ≡ false → s ≤ least n X
least_above n s X l none =
    by_contra s (least n X) (λ lt. fails (some s X) none (some_intro s X (least n X) lt (least_hit n X (omega arith))))

-- the search finds a member
pub least_found : (n s : ℕ) (X : Set) → s < n → some s X ≡ false → X s ≡ true → s ≡ least n X
least_found n s X l none e = omega (arith, least_above n s X (omega arith) none, least-le n X s (holds (X s) e))

-- the search ends without one
pub least-done : (k n : ℕ) (X : Set) → some k X ≡ false → k ≤ n → n ≤ k → n ≡ least n X
least-done k n X none l h =
    let q : some n X ≡ false = sym (some-done k n X none l h) in
    omega (arith, least_above n n X (le_refl n) q, least_bound n X)

-- no lowest member below n: there is none
pub least-none : (n : ℕ) (X : Set) → least n X ≡ n → some n X ≡ false
least-none n X e = is_false (some n X) (λ h. let w = least-some n X h in omega arith)

-- a member that is not above any other is the lowest
pub least_unique : (n : ℕ) (X : Set) (v : ℕ) → v < n → T (X v) → ((s : ℕ) → s < n → T (X s) → v ≤ s) → least n X ≡ v
least_unique n X v l x low =
    let at_most = least-le n X v x in
    omega (arith, low (least n X) (omega arith) (least_in n X v l x))

-- sets that agree below n have the same lowest member
pub least_cong : (n : ℕ) (X Y : Set) → ((s : ℕ) → s < n → X s ≡ Y s) → least n X ≡ least n Y
unfolding least
least_cong zero X Y h = refl
least_cong (suc n) X Y h =
    rw (h 0 (omega arith), least_cong n (λ s. X (suc s)) (λ s. Y (suc s)) (λ s l. h (suc s) (suc-le-suc l))) refl
