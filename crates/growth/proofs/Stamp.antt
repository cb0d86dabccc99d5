-- Laws of rows of passes.
use mathlib.Core.Path.{◌≡◌, refl, ap, ◌∙◌, fun_ext}
use mathlib.Core.Bool.{Bool, true, false, not, ◌||◌, cond}
use mathlib.Core.Logic.{⊎_elim}
use Prim.Native.Nat.{ℕ, zero, suc, ◌≤◌, ◌<◌}
use native.Mathlib.Omega.{arith}
use native.Mathlib.Decide.{le_ind}
use lib.Dec.{eqb, eqb-suc-zero}
use Rattle.arena.specs.Sets.{Set, bit}
use Rattle.arena.specs.Passes.{grow, rank}
use Rattle.arena.proofs.Tests.{fails, or_r}
use Rattle.arena.proofs.Loops.{le_or_lt}
use Rattle.arena.proofs.Passes.{Mono, mono_ext, rank-le}
use Rattle.growth.specs.Stamp.{entered, pass_no, stamp_from, stamp}

-- a state has a pass after this one if it had one before, or joins
pub entered_no : (own : ℕ) (j : Bool) (k : ℕ) → not (eqb (pass_no own j (suc k)) 0) ≡ (not (eqb own 0) || j)
unfolding pass_no
entered_no zero true k = rw (eqb-suc-zero k) refl
entered_no zero false k = refl
entered_no (suc own) j k = rw (eqb-suc-zero own) (rw (eqb-suc-zero own) refl)

-- a state that does not join now with some number joins with none
no_joins : (own : ℕ) (j : Bool) (k m : ℕ) → pass_no own j (suc k) ≡ own → pass_no own j m ≡ own
unfolding pass_no
no_joins zero true k m e = absurd (omega arith)
no_joins zero false k m e = refl
no_joins (suc own) j k m e = rw (eqb-suc-zero own) refl

-- the set after k passes
pub stamp-grow : (step : Set → Set) (A : Set) (k : ℕ) → entered (stamp step A k) ≡ grow step A k
unfolding stamp_from grow
stamp-grow step A zero = fun_ext (λ s. go (A s))
  where
    go : (b : Bool) → not (eqb (bit b) 0) ≡ b
    go true = refl
    go false = refl
stamp-grow step A (suc k) =
    fun_ext (λ s.
    entered_no (stamp step A k s) (step (entered (stamp step A k)) s) (suc k)
    ∙ ap (λ (X : Set). X s || step X s) (stamp-grow step A k))

-- what is not at most k is more
ne_of : (k r : ℕ) → (r ≤ k → ⊥) → k < r
ne_of k r h = ⊎_elim (λ le. absurd (h le)) (λ lt. lt) (le_or_lt r k)

-- the pass of each member is one more than its rank
pub stamp-rank : (step : Set → Set) (A : Set) (n k s : ℕ) → k ≤ n → stamp step A k s ≡ cond (grow step A k s) (suc (rank n step A s)) 0
unfolding stamp_from grow pass_no
stamp-rank step A n zero s l = go (A s) refl
  where
    go : (b : Bool) → A s ≡ b → bit (A s) ≡ cond (A s) (suc (rank n step A s)) 0
    go true e = rw e (let r = (rank-le n step A 0 s l).1 (rw e tt) in omega arith)
    go false e = rw e refl
stamp-rank step A n (suc k) s l =
    rw (stamp-grow step A k, stamp-rank step A n k s (omega arith)) (go (grow step A k s) (step (grow step A k) s) refl refl)
  where
    -- one that joins now has just this rank
    now : grow step A k s ≡ false → step (grow step A k) s ≡ true → suc (suc k) ≡ suc (rank n step A s)
    now p q =
        let low : rank n step A s ≤ suc k = (rank-le n step A (suc k) s l).1 (or_r (grow step A k s) (step (grow step A k) s) (rw q tt)) in
        let high : rank n step A s ≤ k → ⊥ = λ r. fails (grow step A k s) p ((rank-le n step A k s (omega arith)).0 r) in
        omega (arith, ne_of k (rank n step A s) high)

    go : (x y : Bool) → grow step A k s ≡ x → step (grow step A k) s ≡ y
        → pass_no (cond (grow step A k s) (suc (rank n step A s)) 0) (step (grow step A k) s) (suc (suc k))
        ≡ cond (grow step A k s || step (grow step A k) s) (suc (rank n step A s)) 0
    go true y p q = rw (p, eqb-suc-zero (rank n step A s)) refl
    go false true p q = rw (p, q) (now p q)
    go false false p q = rw (p, q) refl

-- passes that begin alike go on alike
pub stamp_cong : (n : ℕ) (step : Set → Set) → Mono n step → (f h : ℕ → ℕ) → ((s : ℕ) → s < n → f s ≡ h s) → (k s : ℕ) → s < n → stamp_from step f k s ≡ stamp_from step h k s
unfolding stamp_from
stamp_cong n step mono f h e zero s l = e s l
stamp_cong n step mono f h e (suc k) s l =
    rw (stamp_cong n step mono f h e k s l, mono_ext n step mono (entered (stamp_from step f k)) (entered (stamp_from step h k)) (λ t m. ap (λ (v : ℕ). not (eqb v 0)) (stamp_cong n step mono f h e k t m)) s l) refl

-- after a pass that adds nothing none adds anything
pub stamp_stop : (n : ℕ) (step : Set → Set) → Mono n step → (f : ℕ → ℕ) (k : ℕ) → ((s : ℕ) → s < n → stamp_from step f (suc k) s ≡ stamp_from step f k s) → (m : ℕ) → k ≤ m → (s : ℕ) → s < n → stamp_from step f m s ≡ stamp_from step f k s
unfolding stamp_from
stamp_stop n step mono f k still m km =
    le_ind (λ m. (s : ℕ) → s < n → stamp_from step f m s ≡ stamp_from step f k s) (λ s l. refl)
    (λ m _ ih s l.
    rw (ih s l, mono_ext n step mono (entered (stamp_from step f m)) (entered (stamp_from step f k)) (λ t b. ap (λ (v : ℕ). not (eqb v 0)) (ih t b)) s l)
    (no_joins (stamp_from step f k s) (step (entered (stamp_from step f k)) s) (suc k) (suc (suc m)) (still s l))) m km
