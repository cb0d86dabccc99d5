-- Laws of counts, and of rows that hold values.
use mathlib.Core.Path.{◌≡◌, refl, ap, ap₂, ◌∙◌}
use mathlib.Core.Bool.{true, false, ◌&&◌}
use mathlib.Core.Logic.{inl, inr, ⊎_elim}
use mathlib.Core.List.{List}
use Prim.Native.Nat.{ℕ, zero, suc, ◌+◌, ◌<◌}
use native.Mathlib.Nat.{not-suc-le-zero, lt-suc_self}
use native.Mathlib.Decide.{ℕ_discrete}
use native.Mathlib.Omega.{arith}
use lib.ListN.{get_or, set, length-set}
use lib.Seq.{get_or-set_same, get_or-set_other}
use lib.Dec.{leb, leb→le, le→leb}
use Rattle.arena.specs.Sets.{Set, imp, some, every, count, bit}
use Rattle.arena.proofs.Tests.{T_ext, dec_T, and_intro, and_l, and_r, is_false}
use Rattle.arena.proofs.Sets.{lt_suc_cases, count_mono, count_grows, count_pos, some_intro, within_in, within-out}
use Rattle.chains.specs.Lent.{Holds}

-- sets that agree below n have as many members
pub count_cong : (n : ℕ) (X Y : Set) → ((k : ℕ) → k < n → X k ≡ Y k) → count n X ≡ count n Y
unfolding count
count_cong zero X Y h = refl
count_cong (suc n) X Y h = ap₂ (λ (a b : ℕ). a + b) (count_cong n X Y (λ k l. h k (omega arith))) (ap bit (h n (lt-suc_self n)))

-- one member more
pub count_add : (n : ℕ) (X Y : Set) (e : ℕ) → e < n → X e ≡ false → Y e ≡ true → ((k : ℕ) → k < n → (k ≡ e → ⊥) → X k ≡ Y k) → count n Y ≡ count n X + 1
unfolding count
count_add zero X Y e l p q h = absurd (not-suc-le-zero l)
count_add (suc n) X Y e l p q h = elim (lt_suc_cases e n l) [
  | inl z ↦ (
      let a : X n ≡ false = rw z at p in
      let b : Y n ≡ true = rw z at q in
      let c = count_cong n X Y (λ k m. h k (omega arith) (λ r. absurd (omega arith))) in
      rw (a, b, c) (omega arith))
  | inr m ↦ (
      let c = count_add n X Y e m p q (λ k j. h k (omega arith)) in
      let d = h n (lt-suc_self n) (λ r. absurd (omega arith)) in
      rw (d, c) (omega arith))
]

-- no member
count_false : (n : ℕ) → count n (λ _. false) ≡ 0
unfolding count
count_false zero = refl
count_false (suc n) = rw (count_false n) refl

pub count_none : (n : ℕ) (X : Set) → ((k : ℕ) → k < n → X k ≡ false) → count n X ≡ 0
count_none n X h = count_cong n X (λ _. false) h ∙ count_false n

-- at least one member
pub count-some : (n : ℕ) (X : Set) → leb 1 (count n X) ≡ some n X
count-some n X = T_ext _ _
    (λ h. ⊎_elim (λ y. y)
    (λ o. absurd (let z = count_none n X (λ k l. is_false (X k) (λ x. o (some_intro n X k l x))) in let p = leb→le 1 (count n X) h in omega arith))
    (dec_T (some n X)))
    (λ h. le→leb 1 (count n X) (count_pos n X h))

-- as many members of P in Q as P has: all of P
pub count-all : (n : ℕ) (P Q : Set) → leb (count n P) (count n (λ k. P k && Q k)) ≡ every n (λ k. imp (P k) (Q k))
count-all n P Q = T_ext _ _
    (λ h. elim (count_grows n (λ k. P k && Q k) P (λ k l. and_l (P k) (Q k))) [
      | inl back ↦ within_in n P Q (λ k l p. and_r (P k) (Q k) (back k l p))
      | inr lt ↦ absurd (let p = leb→le (count n P) (count n (λ k. P k && Q k)) h in omega arith)
    ])
    (λ h. le→leb (count n P) (count n (λ k. P k && Q k)) (count_mono n P (λ k. P k && Q k) (λ k l p. and_intro (P k) (Q k) p (within-out n P Q h k l p))))

-- after a store of v at i: f' has v there, and is f elsewhere
pub holds_store : {n : ℕ} {row : List ℕ} {f : ℕ → ℕ} {f' : ℕ → ℕ} (i v : ℕ) → Holds n row f → i < n → v ≡ f' i → ((s : ℕ) → s < n → (s ≡ i → ⊥) → f s ≡ f' s) → Holds n (set row i v) f'
holds_store {n} {row} {f} {f'} i v c h q keep =
    record { long = rw length-set c.long; cell = at }
  where
    at : (s : ℕ) → s < n → get_or (set row i v) s 0 ≡ f' s
    at s b = elim (ℕ_discrete s i) [ yes p ↦ rw p (get_or-set_same row i v 0 (let z = c.long in omega arith) ∙ q) | no p ↦ get_or-set_other row i s v 0 p ∙ c.cell s b ∙ keep s b p ]

-- the same values
pub holds_cong : {n : ℕ} {row : List ℕ} {f : ℕ → ℕ} {f' : ℕ → ℕ} → Holds n row f → ((s : ℕ) → s < n → f s ≡ f' s) → Holds n row f'
holds_cong c h = record { long = c.long; cell = λ s b. c.cell s b ∙ h s b }
