-- Laws of faults and tests, in the form that `search` and `grind` can use.
use mathlib.Core.Path.{◌≡◌, refl, sym, ◌∙◌}
use mathlib.Core.Bool.{Bool, true, false}
use mathlib.Core.List.{List}
use Prim.Native.Nat.{ℕ, zero, suc, ◌+◌, ◌≤◌, ◌<◌}
use native.Mathlib.Nat.{not-suc-le-zero, eq-or-lt_of_le, le_of_suc-le-suc}
use mathlib.Core.Logic.{⊎_elim}
use native.Mathlib.Numerals.{add-one}
use native.Mathlib.Decide.{le_ind}
use native.Mathlib.Omega.{arith}
use lib.ListN.{length}
use lib.Dec.{T, ltb}
use Rattle.arena.proofs.Choices.{both, first-not, second_not}
use borrow.Author.Rules.{rules}
use borrow.Author.Tests.{eq-eqb, ne_eqb, le-leb, lt-leb, lt-ltb, le-ltb, leb-true, not-true, not-false}
use Rattle.file.specs.Fault.{unless, ◌then◌, lowest, kept_or}
use Rattle.file.specs.Refusals.{frame}

-- ## Chains of tests, for the code that walks along them

pub unless_true : (t : Bool) (v : ℕ) → t ≡ true → unless t v ≡ 0
unfolding unless
unless_true t v e = rw e refl

pub unless_false : (t : Bool) (v : ℕ) → t ≡ false → unless t v ≡ v
unfolding unless
unless_false t v e = rw e refl

pub then_passed : (a b : ℕ) → a ≡ 0 → (a then b) ≡ b
unfolding ◌then◌
then_passed a b e = rw e refl

pub then_stopped : (a b : ℕ) → 0 < a → (a then b) ≡ a
unfolding ◌then◌
then_stopped zero b h = absurd (omega arith)
then_stopped (suc a) b h = refl

-- a call found a fault
pub then_fault : (a b e : ℕ) → e ≡ a → (e ≡ 0 → ⊥) → e ≡ (a then b)
unfolding ◌then◌
then_fault zero b e p q = absurd (q p)
then_fault (suc a) b e p q = p

-- a call found none
pub then_none : (a b e v : ℕ) → e ≡ a → e ≡ 0 → v ≡ b → v ≡ (a then b)
unfolding ◌then◌
then_none a b e v p q r = let z : a ≡ 0 = sym p ∙ q in rw z r

pub unless-last : (t : Bool) (v : ℕ) → t ≡ false → v ≡ unless t v
unfolding unless
unless-last t v e = rw e refl

pub unless-end : (t : Bool) (v : ℕ) → t ≡ true → 0 ≡ unless t v
unfolding unless
unless-end t v e = rw e refl

pub ruleset chain = (unless_true, unless_false, then_passed, then_stopped, le-leb, lt-leb, lt-ltb, le-ltb, eq-eqb, ne_eqb)

pub ruleset faults = (then_fault, then_none, unless-last, unless-end, le-leb, lt-leb, lt-ltb, le-ltb, eq-eqb, ne_eqb, both, first-not, second_not, rules)

-- ## Lent memory: kept on a fault, and else as it was written

module _ {A : Type 0} (old new : A) where
  pub kept_old : (e : ℕ) → 0 < e → old ≡ kept_or old e new
  kept_old zero h = absurd (omega arith)
  kept_old (suc e) h = refl

  pub kept_new : (e : ℕ) → 0 ≡ e → new ≡ kept_or old e new
  kept_new e p = rw (← p) refl

-- ## What a passed test says

pub then_zero : (a b : ℕ) → (a then b) ≡ 0 → (a ≡ 0) × (b ≡ 0)
unfolding ◌then◌
then_zero zero b e = (refl, e)
then_zero (suc a) b e = absurd (omega arith)

pub unless-zero : (t : Bool) (v : ℕ) → T (ltb 0 v) → unless t v ≡ 0 → t ≡ true
unfolding unless
unless-zero true v h e = refl
unless-zero false zero h e = absurd h
unless-zero false (suc v) h e = absurd (omega arith)

-- the other way: no fault
pub zero_then : (a b : ℕ) → a ≡ 0 → b ≡ 0 → (a then b) ≡ 0
zero_then a b p q = sym (then_none a b a 0 refl p (sym q))

-- a frame without a fault is whole
pub frame-whole : (f : List ℕ) (at len kind : ℕ) → 0 ≡ frame f at len kind → at + 2 + len ≤ length f
unfolding frame
frame-whole f at len kind p =
    let z = (then_zero _ _ (then_zero _ _ (then_zero _ _ (sym p)).1).1).1 in
    leb-true _ _ (unless-zero _ 2 tt z)

-- ## Loops over records

pub lowest-none : (p : ℕ → ℕ) → lowest 0 p ≡ 0
unfolding lowest
lowest-none p = refl

pub lowest-done : (k n : ℕ) (p : ℕ → ℕ) → lowest k p ≡ 0 → k ≤ n → n ≤ k → 0 ≡ lowest n p
lowest-done k n p e l h = let q : k ≡ n = omega arith in sym (rw q at e)

-- a turn of a loop over records: no fault, or the first
pub lowest_passed : (n : ℕ) (p : ℕ → ℕ) → lowest n p ≡ 0 → 0 ≡ p n → lowest (n + 1) p ≡ 0
unfolding lowest
lowest_passed n p a q = rw add-one (zero_then (lowest n p) (p n) a (sym q))

-- the first fault decides, however many records follow
pub lowest_found : (n : ℕ) (p : ℕ → ℕ) (k e : ℕ) → k < n → lowest k p ≡ 0 → e ≡ p k → (e ≡ 0 → ⊥) → e ≡ lowest n p
unfolding lowest
lowest_found n p k e l a q z =
    le_ind (λ m. e ≡ lowest m p) (then_none (lowest k p) (p k) (lowest k p) e refl a q) (λ m _ x. then_fault (lowest m p) (p m) e x z) n l

pub lowest_stopped : (n : ℕ) (p : ℕ → ℕ) (k : ℕ) → k < n → lowest k p ≡ 0 → 0 < p k → lowest n p ≡ p k
lowest_stopped n p k l a h = sym (lowest_found n p k (p k) l a refl (λ z. omega arith))

pub ruleset records = (lowest-none, lowest_passed, lowest_stopped, lowest-done)

-- no record has a fault
pub lowest-zero : (n : ℕ) (p : ℕ → ℕ) → lowest n p ≡ 0 → (k : ℕ) → k < n → p k ≡ 0
unfolding lowest
lowest-zero zero p e k l = absurd (not-suc-le-zero l)
lowest-zero (suc n) p e k l =
    ⊎_elim (λ (q : k ≡ n). rw q (then_zero (lowest n p) (p n) e).1) (λ (lt : k < n). lowest-zero n p (then_zero (lowest n p) (p n) e).0 k lt) (eq-or-lt_of_le (le_of_suc-le-suc l))

pub lowest-all : (n : ℕ) (p : ℕ → ℕ) → ((k : ℕ) → k < n → p k ≡ 0) → lowest n p ≡ 0
unfolding lowest
lowest-all zero p h = refl
lowest-all (suc n) p h = zero_then (lowest n p) (p n) (lowest-all n p (λ k l. h k (omega arith))) (h n (omega arith))
