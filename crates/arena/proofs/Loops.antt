-- Some and every, as a loop that counts upward meets them: equations between tests, in the direction that a goal has.
use Prim.Native.Nat.{ℕ, ◌+◌, ◌≤◌, ◌<◌}
use mathlib.Core.Path.{◌≡◌, refl, sym, subst, ◌∙◌}
use mathlib.Core.Bool.{Bool, true, false, ◌&&◌, ◌||◌}
use mathlib.Core.Logic.{◌⊎◌, inl, inr}
use native.Mathlib.Decide.{dec_le}
use native.Mathlib.Numerals.{add-one}
use native.Mathlib.Omega.{arith}
use lib.Dec.{T}
use Rattle.arena.specs.Sets.{Set, some, every}
use Rattle.arena.proofs.Tests.{T_ext, is_true, is_false, holds, fails}
use Rattle.arena.proofs.Sets.{some_intro, some_elim, every_intro, every_elim, some_mono, every_mono}

-- n is at most k, or k is below n
pub le_or_lt : (n k : ℕ) → (n ≤ k) ⊎ (k < n)
le_or_lt n k = elim (dec_le n k) [ yes h ↦ inl h | no h ↦ inr (omega arith) ]

-- ## The start of a loop, and one turn

-- before the first turn nothing is found
pub some-zero : (X : Set) → some 0 X ≡ false
unfolding some
some-zero X = refl

-- before the first turn nothing has failed
pub every-zero : (X : Set) → every 0 X ≡ true
unfolding every
every-zero X = refl

-- a turn adds its own number to the search
pub some_more : (n : ℕ) (X : Set) → some (n + 1) X ≡ (some n X || X n)
unfolding some
some_more n X = rw add-one

-- a turn adds its own number to the test
pub every_more : (n : ℕ) (X : Set) → every (n + 1) X ≡ (every n X && X n)
unfolding every
every_more n X = rw add-one

-- a turn that finds nothing; r is what a call gave for n
pub some_still : (n : ℕ) (X : Set) (r : Bool) → some n X ≡ false → r ≡ X n → r ≡ false → some (n + 1) X ≡ false
some_still n X r a b c = some_more n X ∙ rw (a, ← b, c)

-- a turn that does not fail
pub every_still : (n : ℕ) (X : Set) → every n X ≡ true → X n ≡ true → every (n + 1) X ≡ true
every_still n X a b = every_more n X ∙ rw (a, b)

-- ## The answer of a loop

-- a member decides that there is some
pub some_found : (n : ℕ) (X : Set) (k : ℕ) → k < n → X k ≡ true → some n X ≡ true
some_found n X k l e = is_true (some n X) (some_intro n X k l (holds (X k) e))

-- the early end of a search: a call gave true for k
pub some_true : (n : ℕ) (X : Set) (k : ℕ) (r : Bool) → k < n → r ≡ X k → r ≡ true → true ≡ some n X
some_true n X k r l q e = sym (some_found n X k l (sym q ∙ e))

-- the last turn of a search is over, and nothing was found
pub some-done : (k n : ℕ) (X : Set) → some k X ≡ false → k ≤ n → n ≤ k → false ≡ some n X
some-done k n X e l h = let q : k ≡ n = omega arith in sym (rw q at e)

-- the early end of a test: k is no member
pub every_false : (n : ℕ) (X : Set) (k : ℕ) → k < n → X k ≡ false → false ≡ every n X
every_false n X k l e = sym (is_false (every n X) (λ h. fails (X k) e (every_elim n X h k l)))

-- the last turn of a test is over, and nothing failed
pub every-done : (k n : ℕ) (X : Set) → every k X ≡ true → k ≤ n → n ≤ k → true ≡ every n X
every-done k n X e l h = let q : k ≡ n = omega arith in sym (rw q at e)

-- the laws by which `search` closes a loop that looks for a member or for a number outside
pub ruleset tests = (some-zero, every-zero, some_still, some_true, some-done, every-done)

-- ## What the answer says

-- some is true: here is a member
pub some_one : (n : ℕ) (X : Set) → some n X ≡ true → (k : ℕ) × (k < n) × (X k ≡ true)
some_one n X e = let w = some_elim n X (holds (some n X) e) in (w.0, w.1, is_true (X w.0) w.2)

-- no number below n is a member: some is false
pub some-none : (n : ℕ) (X : Set) → ((k : ℕ) → k < n → X k ≡ false) → some n X ≡ false
some-none n X h = is_false (some n X) (λ x. let w = some_elim n X x in fails (X w.0) (h w.0 w.1) w.2)

-- sets that agree below n have some member alike
pub some_cong : (n : ℕ) (X Y : Set) → ((k : ℕ) → k < n → X k ≡ Y k) → some n X ≡ some n Y
some_cong n X Y h = T_ext (some n X) (some n Y) (some_mono n X Y (λ k l. subst T (h k l))) (some_mono n Y X (λ k l. subst T (sym (h k l))))

-- every is true: each number below n is a member
pub every_one : (n : ℕ) (X : Set) → every n X ≡ true → (k : ℕ) → k < n → X k ≡ true
every_one n X e k l = is_true (X k) (every_elim n X (holds (every n X) e) k l)

-- each number below n is a member: every is true
pub every_each : (n : ℕ) (X : Set) → ((k : ℕ) → k < n → X k ≡ true) → every n X ≡ true
every_each n X h = is_true (every n X) (every_intro n X (λ k l. holds (X k) (h k l)))

-- sets that agree below n hold every number alike
pub every_cong : (n : ℕ) (X Y : Set) → ((k : ℕ) → k < n → X k ≡ Y k) → every n X ≡ every n Y
every_cong n X Y h = T_ext (every n X) (every n Y) (every_mono n X Y (λ k l. subst T (h k l))) (every_mono n Y X (λ k l. subst T (sym (h k l))))
