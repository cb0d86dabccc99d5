-- Laws of chains of places with equal keys.
use mathlib.Core.Path.{◌≡◌, refl, sym}
use mathlib.Core.Bool.{Bool, true, false, ◌&&◌, cond}
use mathlib.Core.Logic.{inl, inr, ⊎_elim}
use mathlib.Core.List.{List}
use Prim.Native.Nat.{ℕ, zero, suc, ◌+◌, ◌≤◌, ◌<◌, zero-le}
use native.Mathlib.Nat.{not-suc-le-zero, lt-suc_self}
use native.Mathlib.Decide.{ℕ_discrete}
use native.Mathlib.Numerals.{add-one}
use native.Mathlib.Omega.{arith}
use lib.ListN.{get_or}
use lib.Dec.{eqb, leb, eqb→eq, leb→le, le→leb, eqb_refl}
use borrow.Author.Tests.{eq-eqb, ne_eqb}
use Rattle.arena.specs.Sets.{Set}
use Rattle.arena.proofs.Sets.{lt_suc_cases}
use Rattle.arena.proofs.Loops.{le_or_lt}
use Rattle.arena.proofs.Tests.{T_ext, is_true, is_false, and_intro, and_l, and_r, cond_ind, fails}
use Rattle.chains.specs.Lent.{cell_at, last_of, last_below}

module _ (key : ℕ → ℕ) where
  -- no key yet, and one key more
  pub last-zero : (c : ℕ) → last_of key 0 c ≡ 0
  unfolding last_of
  last-zero c = refl

  pub last-here : (k c : ℕ) → key k ≡ c → k + 1 ≡ last_of key (k + 1) c
  unfolding last_of
  last-here k c e = rw (add-one, eq-eqb _ _ e) refl

  pub last-other : (k c : ℕ) → (c ≡ key k → ⊥) → last_of key k c ≡ last_of key (k + 1) c
  unfolding last_of
  last-other k c ne = rw (add-one, ne_eqb _ _ (λ p. ne (sym p))) refl

  -- the last place is among them
  pub last-le : (j c : ℕ) → last_of key j c ≤ j
  unfolding last_of
  last-le zero c = zero-le
  last-le (suc j) c = cond_ind (λ v. v ≤ suc j) (eqb (key j) c) _ _ (λ _. omega arith) (λ _. omega (arith, last-le j c))

  -- its key is c
  pub last_is : (j c e : ℕ) → last_of key j c ≡ suc e → key e ≡ c
  unfolding last_of
  last_is zero c e h = absurd (omega arith)
  last_is (suc j) c e h = go (eqb (key j) c) refl h (last_is j c e)
    where
      go : (x : Bool) → eqb (key j) c ≡ x → cond x (suc j) (last_of key j c) ≡ suc e → (last_of key j c ≡ suc e → key e ≡ c) → key e ≡ c
      go true q z f = let i : j ≡ e = omega arith in rw (← i) (eqb→eq (key j) c (rw q tt))
      go false q z f = f z

  -- and no later one has it
  pub last_none : (j c k : ℕ) → last_of key j c ≤ k → k < j → key k ≡ c → ⊥
  unfolding last_of
  last_none zero c k h l e = not-suc-le-zero l
  last_none (suc j) c k h l e = go (eqb (key j) c) refl h (λ z m. last_none j c k z m e)
    where
      go : (x : Bool) → eqb (key j) c ≡ x → cond x (suc j) (last_of key j c) ≤ k → (last_of key j c ≤ k → k < j → ⊥) → ⊥
      go true q z f = omega arith
      go false q z f = elim (lt_suc_cases k j l) [
        | inl i ↦ fails (eqb (key j) c) q (rw (← i) (rw e (eqb_refl c)))
        | inr m ↦ f z m
      ]

-- keys that are c at the same places
pub last_cong : (key key' : ℕ → ℕ) (c m : ℕ) → ((k : ℕ) → k < m → eqb (key k) c ≡ eqb (key' k) c) → last_of key m c ≡ last_of key' m c
unfolding last_of
last_cong key key' c zero h = refl
last_cong key key' c (suc m) h = rw (h m (lt-suc_self m), last_cong key key' c m (λ k l. h k (omega arith))) refl

-- ## A walk along the chain of c

module _ (key : List ℕ) where
  -- the places of c from e on
  abbrev pub onward : ℕ → ℕ → Set
  onward c e k = eqb c (get_or key k 0) && leb e k

  -- before the walk
  pub onward-first : (m c k : ℕ) → k < m → onward c (last_below key m c) k ≡ false
  onward-first m c k l = is_false _ (λ h. last_none (cell_at key) m c k
      (leb→le (last_below key m c) k (and_r (eqb c (get_or key k 0)) _ h)) l
      (sym (eqb→eq c (get_or key k 0) (and_l (eqb c (get_or key k 0)) (leb (last_below key m c) k) h))))

  -- one place more: e itself is new, and the others are as they were
  pub onward_old : (c e : ℕ) → onward c (suc e) e ≡ false
  onward_old c e = is_false _ (λ h. let z = leb→le (suc e) e (and_r (eqb c (get_or key e 0)) (leb (suc e) e) h) in absurd (omega arith))

  pub onward_new : (c e : ℕ) → get_or key e 0 ≡ c → onward c (last_below key e c) e ≡ true
  onward_new c e is = rw (is, eq-eqb c c refl) (is_true (leb (last_below key e c) e) (le→leb (last_below key e c) e (last-le (cell_at key) e c)))

  pub onward-same : (c e k : ℕ) → (k ≡ e → ⊥) → onward c (suc e) k ≡ onward c (last_below key e c) k
  onward-same c e k ne = T_ext _ _
      (λ h. and_intro (eqb c (get_or key k 0)) _ (and_l (eqb c (get_or key k 0)) (leb (suc e) k) h)
      (le→leb (last_below key e c) k (let z = leb→le (suc e) k (and_r (eqb c (get_or key k 0)) _ h) in omega (arith, last-le (cell_at key) e c))))
      (λ h. and_intro (eqb c (get_or key k 0)) _ (and_l (eqb c (get_or key k 0)) (leb (last_below key e c) k) h)
      (le→leb (suc e) k (after
      (leb→le (last_below key e c) k (and_r (eqb c (get_or key k 0)) _ h))
      (sym (eqb→eq c (get_or key k 0) (and_l (eqb c (get_or key k 0)) (leb (last_below key e c) k) h))))))
    where
      after : last_below key e c ≤ k → get_or key k 0 ≡ c → suc e ≤ k
      after low z = ⊎_elim
          (λ (le : e ≤ k). elim (ℕ_discrete k e) [ yes i ↦ absurd (ne i) | no _ ↦ omega arith ])
          (λ (lt : k < e). absurd (last_none (cell_at key) e c k low lt z))
          (le_or_lt e k)

  -- after the walk
  pub onward-last : (c k : ℕ) → onward c 0 k ≡ eqb c (get_or key k 0)
  onward-last c k = and_yes (eqb c (get_or key k 0)) (leb 0 k) (le→leb 0 k zero-le)
    where
      and_yes : (x y : Bool) → lib.Dec.T y → (x && y) ≡ x
      and_yes true true h = refl
      and_yes true false h = elim h [ ]
      and_yes false y h = refl
