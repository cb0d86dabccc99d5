-- Laws of sets below a bound: inclusion, quantifiers, counts, the lowest member.
use Prim.Native.Nat.{ℕ, zero, suc, ◌≤◌, ◌<◌, zero-le, suc-le-suc}
use mathlib.Core.Path.{◌≡◌, refl, sym, ap, ◌∙◌, fun_ext}
use mathlib.Core.Bool.{Bool, true, false, not, ◌&&◌}
use mathlib.Core.Logic.{◌⊎◌, inl, inr}
use native.Mathlib.Nat.{le_refl, lt-suc_self, le_of_suc-le-suc, not-suc-le-zero, eq-or-lt_of_le}
use native.Mathlib.Omega.{arith}
use lib.Dec.{T}
use Rattle.arena.specs.Sets.{Set, compl, imp, some, every, bit, count, least}
use Rattle.arena.proofs.Tests.{and_intro, and_l, and_r, or_l, or_r, or_elim, imp_intro, imp_elim, not-not, nor, cond_ind}

-- inclusion: the members of X below n lie in Y
abbrev pub Sub : ℕ → Set → Set → Type 0
Sub n X Y = (s : ℕ) → s < n → T (X s) → T (Y s)

-- the complement of the complement of X is X
pub compl-compl : (X : Set) → compl (compl X) ≡ X
compl-compl X = fun_ext (λ s. not-not (X s))

-- a number below n + 1 is n or lies below n
pub lt_suc_cases : (s n : ℕ) → s < suc n → (s ≡ n) ⊎ (s < n)
lt_suc_cases s n h = eq-or-lt_of_le (le_of_suc-le-suc h)

-- ## Some and every

-- a member shows that there is some
pub some_intro : (n : ℕ) (X : Set) (s : ℕ) → s < n → T (X s) → T (some n X)
unfolding some
some_intro zero X s h x = absurd (not-suc-le-zero h)
some_intro (suc n) X s h x = elim (lt_suc_cases s n h) [
  | inl e ↦ or_r (some n X) (X n) (rw e at x)
  | inr l ↦ or_l (some n X) (X n) (some_intro n X s l x)
]

-- where there is some, here is a member
pub some_elim : (n : ℕ) (X : Set) → T (some n X) → (s : ℕ) × (s < n) × T (X s)
unfolding some
some_elim (suc n) X h = or_elim (some n X) (X n) (λ r. let t = some_elim n X r in (t.0, omega arith, t.2)) (λ x. (n, lt-suc_self n, x)) h
some_elim zero X h = elim h [ ]

-- if each number below n lies in X, every one does
pub every_intro : (n : ℕ) (X : Set) → ((s : ℕ) → s < n → T (X s)) → T (every n X)
unfolding every
every_intro zero X f = tt
every_intro (suc n) X f = and_intro (every n X) (X n) (every_intro n X (λ s l. f s (omega arith))) (f n (lt-suc_self n))

-- if every number below n lies in X, each one does
pub every_elim : (n : ℕ) (X : Set) → T (every n X) → (s : ℕ) → s < n → T (X s)
unfolding every
every_elim zero X h s l = absurd (not-suc-le-zero l)
every_elim (suc n) X h s l = elim (lt_suc_cases s n l) [
  | inl e ↦ rw e (and_r (every n X) (X n) h)
  | inr k ↦ every_elim n X (and_l (every n X) (X n) h) s k
]

-- every number lies outside X exactly where not some lies in it
pub not_some : (n : ℕ) (X : Set) → every n (compl X) ≡ not (some n X)
unfolding some every
not_some zero X = refl
not_some (suc n) X = ap (λ b. b && not (X n)) (not_some n X) ∙ nor (some n X) (X n)

-- some number lies outside X exactly where not every one lies in it
pub not-every : (n : ℕ) (X : Set) → some n (compl X) ≡ not (every n X)
not-every n X = sym (not-not (some n (compl X))) ∙ ap not (sym (not_some n (compl X)) ∙ ap (every n) (compl-compl X))

-- some member of X is some member of a larger set
pub some_mono : (n : ℕ) (X Y : Set) → Sub n X Y → T (some n X) → T (some n Y)
some_mono n X Y h x = let w = some_elim n X x in some_intro n Y w.0 w.1 (h w.0 w.1 w.2)

-- if every number lies in X, every one lies in a larger set
pub every_mono : (n : ℕ) (X Y : Set) → Sub n X Y → T (every n X) → T (every n Y)
every_mono n X Y h x = every_intro n Y (λ s l. h s l (every_elim n X x s l))

-- where P meets Q, larger sets meet
pub meets-sub : (n : ℕ) (P Q R S : Set) → Sub n P R → Sub n Q S → T (some n (λ t. P t && Q t)) → T (some n (λ t. R t && S t))
meets-sub n P Q R S f g = some_mono n _ _ (λ t l x. and_intro (R t) (S t) (f t l (and_l (P t) (Q t) x)) (g t l (and_r (P t) (Q t) x)))

-- a common member shows that P meets Q
pub meets_in : (n : ℕ) (P Q : Set) (s : ℕ) → s < n → T (P s) → T (Q s) → T (some n (λ t. P t && Q t))
meets_in n P Q s l p q = some_intro n (λ t. P t && Q t) s l (and_intro (P s) (Q s) p q)

-- where P meets Q, here is a common member
pub meets-out : (n : ℕ) (P Q : Set) → T (some n (λ t. P t && Q t)) → (s : ℕ) × (s < n) × T (P s) × T (Q s)
meets-out n P Q h =
    let w = some_elim n (λ t. P t && Q t) h in
    (w.0, w.1, and_l (P w.0) (Q w.0) w.2, and_r (P w.0) (Q w.0) w.2)

-- an inclusion passes the test of inclusion
pub within_in : (n : ℕ) (P Q : Set) → Sub n P Q → T (every n (λ t. imp (P t) (Q t)))
within_in n P Q h = every_intro n (λ t. imp (P t) (Q t)) (λ t l. imp_intro (P t) (Q t) (h t l))

-- what passes the test of inclusion is an inclusion
pub within-out : (n : ℕ) (P Q : Set) → T (every n (λ t. imp (P t) (Q t))) → Sub n P Q
within-out n P Q h t l p = imp_elim (P t) (Q t) (every_elim n (λ t. imp (P t) (Q t)) h t l) p

-- an inclusion of P in Q is one of a smaller set in a larger
pub within-sub : (n : ℕ) (P Q R S : Set) → Sub n R P → Sub n Q S → T (every n (λ t. imp (P t) (Q t))) → T (every n (λ t. imp (R t) (S t)))
within-sub n P Q R S f g h = within_in n R S (λ t l r. g t l (within-out n P Q h t l (f t l r)))

-- ## Counts

-- a larger test counts for no less
pub bit_mono : (a b : Bool) → (T a → T b) → bit a ≤ bit b
bit_mono true true h = le_refl 1
bit_mono true false h = absurd (h tt)
bit_mono false b h = zero-le

-- of two tests one of which implies the other: they are equal, or the second counts for more
pub bit_grows : (a b : Bool) → (T a → T b) → (T b → T a) ⊎ (bit a < bit b)
bit_grows true b h = inl (λ x. tt)
bit_grows false true h = inr (le_refl 1)
bit_grows false false h = inl (λ x. x)

-- there are no more than n members below n
pub count-le : (n : ℕ) (X : Set) → count n X ≤ n
unfolding count
count-le zero X = le_refl 0
count-le (suc n) X = omega (arith, count-le n X, bit_mono (X n) true (λ x. tt))

-- an inclusion below n + 1 is one below n
sub-pred : (n : ℕ) (X Y : Set) → Sub (suc n) X Y → Sub n X Y
sub-pred n X Y h s l x = h s (omega arith) x

-- an inclusion below n that holds at n too is one below n + 1
sub-suc : (n : ℕ) (X Y : Set) → Sub n X Y → (T (X n) → T (Y n)) → Sub (suc n) X Y
sub-suc n X Y h k s l x = elim (lt_suc_cases s n l) [ inl e ↦ rw e (k (rw e at x)) | inr m ↦ h s m x ]

-- a larger set has no fewer members
pub count_mono : (n : ℕ) (X Y : Set) → Sub n X Y → count n X ≤ count n Y
unfolding count
count_mono zero X Y h = le_refl 0
count_mono (suc n) X Y h = omega (arith, count_mono n X Y (sub-pred n X Y h), bit_mono (X n) (Y n) (h n (lt-suc_self n)))

-- a larger set has the same members or a larger count
pub count_grows : (n : ℕ) (X Y : Set) → Sub n X Y → Sub n Y X ⊎ (count n X < count n Y)
unfolding count
count_grows zero X Y h = inl (λ s l x. absurd (not-suc-le-zero l))
count_grows (suc n) X Y h =
    let hn = h n (lt-suc_self n) in
    elim (count_grows n X Y (sub-pred n X Y h)) [
      | inl same ↦ elim (bit_grows (X n) (Y n) hn) [
        | inl back ↦ inl (sub-suc n Y X same back)
        | inr lt ↦ inr (omega (arith, count_mono n X Y (sub-pred n X Y h)))
      ]
      | inr lt ↦ inr (omega (arith, bit_mono (X n) (Y n) hn))
    ]

-- a set with some member has at least one
pub count_pos : (n : ℕ) (X : Set) → T (some n X) → 1 ≤ count n X
unfolding some count
count_pos (suc n) X h = or_elim (some n X) (X n) (λ r. omega (arith, count_pos n X r)) (λ x. omega (arith, bit_mono true (X n) (λ _. x))) h
count_pos zero X h = elim h [ ]

-- ## The lowest member

-- no member is lower than the lowest
pub least-le : (n : ℕ) (X : Set) (s : ℕ) → T (X s) → least n X ≤ s
unfolding least
least-le zero X s x = zero-le
least-le (suc n) X zero x = cond_ind (λ k. k ≤ zero) (X zero) zero (suc (least n (λ s. X (suc s)))) (λ h. zero-le) (λ o. absurd (o x))
least-le (suc n) X (suc s) x =
    cond_ind (λ k. k ≤ suc s) (X zero) zero (suc (least n (λ s. X (suc s)))) (λ h. zero-le)
    (λ o. suc-le-suc (least-le n (λ s. X (suc s)) s x))

-- a lowest member below n is a member
pub least_hit : (n : ℕ) (X : Set) → least n X < n → T (X (least n X))
unfolding least
least_hit zero X l = absurd (not-suc-le-zero l)
least_hit (suc n) X l =
    cond_ind (λ k. k < suc n → T (X k)) (X zero) zero (suc (least n (λ s. X (suc s)))) (λ h _. h)
    (λ o m. least_hit n (λ s. X (suc s)) (le_of_suc-le-suc m)) l

-- where there is a member, the lowest is one
pub least_in : (n : ℕ) (X : Set) (s : ℕ) → s < n → T (X s) → T (X (least n X))
least_in n X s l x = least_hit n X (omega (arith, least-le n X s x))

-- where there is some member, the lowest lies below n and is one
pub least-some : (n : ℕ) (X : Set) → T (some n X) → (least n X < n) × T (X (least n X))
least-some n X h =
    let w = some_elim n X h in
    (omega (arith, least-le n X w.0 w.2), least_in n X w.0 w.1 w.2)
