-- Laws of rows that are filled in order, or counted up.
use Prim.Native.Nat.{ℕ, ◌+◌, ◌*◌, ◌≤◌, ◌<◌, zero-le}
use mathlib.Core.Path.{◌≡◌, refl, sym, ap, ◌∙◌}
use mathlib.Core.Bool.{Bool, true, false, ◌&&◌}
use mathlib.Core.List.{List}
use mathlib.Core.Logic.{inl, inr}
use native.Mathlib.Nat.{not-suc-le-zero, add-zero, le_refl}
use native.Mathlib.Numerals.{add-one}
use native.Mathlib.Omega.{arith}
use mir.Syntax.{w64}
use mir.Val.{Fits}
use lib.ListN.{length, get_or, set, length-set}
use lib.Seq.{get_or-set_same, get_or-set_other}
use lib.Dec.{eqb}
use borrow.Author.Tests.{eq-eqb, ne_eqb}
use Rattle.arena.specs.Sets.{Set, count, bit}
use Rattle.arena.proofs.Sets.{lt_suc_cases, count-le}
use Rattle.game.specs.Limits.{max_states}
use Rattle.game.specs.Rows.{fill, zeros}
use Rattle.game.proofs.Rows.{fill_store, fill_at, fill-past, fill-length, zeros-length, zeros_at}
use Rattle.game.proofs.Small.{sweep}
use Rattle.chains.specs.Lent.{Holds, Keys, many_of, cell_at, last_below}
use Rattle.chains.proofs.Counts.{holds_store, holds_cong, count_cong}
use Rattle.chains.proofs.Chains.{last-zero, last-here, last-other}

-- no place yet, and one place more
pub holds_none : (row : List ℕ) (f : ℕ → ℕ) → Holds 0 row f
holds_none row f = record { long = zero-le; cell = λ s l. absurd (not-suc-le-zero l) }

pub holds_more : {n : ℕ} {row : List ℕ} {f : ℕ → ℕ} (v : ℕ) → Holds n row f → n < length row → v ≡ f n → Holds (n + 1) (set row n v) f
holds_more {n} {row} {f} v c l q = record {
  long = rw length-set (omega arith);
  cell = λ s b. elim (lt_suc_cases s n (omega arith)) [
    | inl e ↦ rw e (get_or-set_same row n v 0 l ∙ q)
    | inr m ↦ get_or-set_other row n s v 0 (λ p. absurd (omega arith)) ∙ c.cell s m
  ];
}

-- all places
pub holds_done : {k n : ℕ} {row : List ℕ} {f : ℕ → ℕ} → Holds k row f → k ≤ n → n ≤ k → Holds n row f
holds_done {k} {n} h l m = let e : k ≡ n = omega arith in rw e at h

-- a row of zeros
pub holds_zeros : {n k : ℕ} → n ≤ k → Holds n (zeros k) (λ _. 0)
holds_zeros {n} {k} l = record { long = rw zeros-length l; cell = λ s _. zeros_at k s }

-- a row that is filled in its first places
module _ (n k : ℕ) (l : n ≤ k) (f : ℕ → ℕ) {row : List ℕ} (e : row ≡ fill n f (zeros k)) where
  pub row-long : length row ≡ k
  row-long = ap length e ∙ fill-length n f (zeros k) (rw zeros-length l) ∙ zeros-length k

  pub row_holds : Holds n row f
  row_holds = record { long = omega (arith, row-long); cell = λ s m. rw e (fill_at n f (zeros k) s m) }

-- a row that is filled over another one holds the values
pub filled : (n : ℕ) (f : ℕ → ℕ) {row : List ℕ} (old : List ℕ) → row ≡ fill n f old → n ≤ length old → Holds n row f
filled n f old e l = record { long = rw (e, fill-length n f old l) l; cell = λ s m. rw e (fill_at n f old s m) }

-- one place more of a row in which each place gets a value by its own number and the value that it had
pub change_more : (h : ℕ → ℕ → ℕ) (s : ℕ) {row : List ℕ} (old : List ℕ) → s < length old → row ≡ fill s (λ t. h t (get_or old t 0)) old → (v : ℕ) → v ≡ h s (get_or row s 0)
    → set row s v ≡ fill (s + 1) (λ t. h t (get_or old t 0)) old
change_more h s {row} old l e v q = fill_store s _ old l row e v (q ∙ ap (h s) not_yet)
  where
    not_yet : get_or row s 0 ≡ get_or old s 0
    not_yet = rw e (fill-past s _ old s 0 (le_refl s))

-- ## Keys

-- the place that a key names
module _ {n m : ℕ} {key : List ℕ} (keys : Keys n m key) (few : n ≤ max_states) (k : ℕ) (l : k < m) where
  pub key_small : get_or key k 0 < 512
  key_small = omega (arith, keys.below k l)

  pub key_in : {row : List ℕ} {f : ℕ → ℕ} → Holds n row f → get_or key k 0 < length row
  key_in h = omega (arith, keys.below k l, h.long)

  pub key_fits : Fits w64 (get_or key k 0)
  key_fits = omega (arith, key_small)

  -- a row of 16-bit places is read at an offset of two bytes a place
  pub key_offset : Fits w64 (get_or key k 0 * 2)
  key_offset = omega (arith, key_small)

pub ruleset places = (holds_none, holds_done, key_small, key_in, key_fits, key_offset, sweep)

-- ## Chains

pub link_none : (key : List ℕ) {n : ℕ} {last : List ℕ} → Holds n last (λ _. 0) → Holds n last (last_below key 0)
link_none key h = holds_cong h (λ s _. sym (last-zero (cell_at key) s))

pub link_more : (key : List ℕ) (k : ℕ) {n : ℕ} {last : List ℕ} → Holds n last (last_below key k) → get_or key k 0 < n → Holds n (set last (get_or key k 0) (k + 1)) (last_below key (k + 1))
link_more key k h l = holds_store (get_or key k 0) (k + 1) h l (last-here (cell_at key) k (get_or key k 0) refl) (λ s _ ne. last-other (cell_at key) k s ne)

pub link_before : (key : List ℕ) (k : ℕ) {n : ℕ} {last before : List ℕ} → Holds n last (last_below key k) → get_or key k 0 < n → Holds k before (λ j. last_below key j (get_or key j 0)) → k < length before
    → Holds (k + 1) (set before k (get_or last (get_or key k 0) 0)) (λ j. last_below key j (get_or key j 0))
link_before key k h l b m = holds_more _ b m (h.cell (get_or key k 0) l)

-- ## Counts

-- how many of the first k places have key c and are in X
abbrev pub among : List ℕ → Set → ℕ → ℕ → ℕ
among key X k c = count k (λ j. eqb (get_or key j 0) c && X j)

module _ (key : List ℕ) (X : Set) where
  pub among_none : (c : ℕ) → 0 ≡ among key X 0 c
  unfolding count
  among_none c = refl

  one_more : (k c : ℕ) → among key X (k + 1) c ≡ among key X k c + bit (eqb (get_or key k 0) c && X k)
  unfolding count
  one_more k c = rw add-one refl

  among-here : (k : ℕ) → X k ≡ true → among key X k (get_or key k 0) + 1 ≡ among key X (k + 1) (get_or key k 0)
  among-here k e = rw (one_more k (get_or key k 0), eq-eqb (get_or key k 0) (get_or key k 0) refl, e) refl

  among-other : (k c : ℕ) → (c ≡ get_or key k 0 → ⊥) → among key X k c ≡ among key X (k + 1) c
  among-other k c ne = rw (one_more k c, ne_eqb (get_or key k 0) c (λ p. ne (sym p)), add-zero) refl

  among_still : (k c : ℕ) → X k ≡ false → among key X k c ≡ among key X (k + 1) c
  among_still k c e = rw (one_more k c, e, none (eqb (get_or key k 0) c), add-zero) refl
    where
      none : (b : Bool) → (b && false) ≡ false
      none true = refl
      none false = refl

  -- one place more, in X or not
  pub among-more : (k : ℕ) {n : ℕ} {out out' : List ℕ} → Holds n out (among key X k) → get_or key k 0 < n → X k ≡ true
      → out' ≡ set out (get_or key k 0) (get_or out (get_or key k 0) 0 + 1) → Holds n out' (among key X (k + 1))
  among-more k h l e q = rw q (holds_store (get_or key k 0) _ h l (ap (λ (x : ℕ). x + 1) (h.cell (get_or key k 0) l) ∙ among-here k e) (λ s _ ne. among-other k s ne))

  pub among_same : (k : ℕ) {n : ℕ} {out out' : List ℕ} → Holds n out (among key X k) → X k ≡ false → out' ≡ out → Holds n out' (among key X (k + 1))
  among_same k h e q = rw q (holds_cong h (λ s _. among_still k s e))

  pub among-le : (k c : ℕ) → among key X k c ≤ k
  among-le k c = count-le k (λ j. eqb (get_or key j 0) c && X j)

-- ## Keys counted

many_among : (key : List ℕ) (m c : ℕ) → many_of m key c ≡ among key (λ _. true) m c
unfolding many_of
many_among key m c = count_cong m _ _ (λ k _. all (eqb (get_or key k 0) c))
  where
    all : (b : Bool) → b ≡ (b && true)
    all true = refl
    all false = refl

module _ (key : List ℕ) where
  pub many_none : {n : ℕ} {out : List ℕ} → Holds n out (λ _. 0) → Holds n out (many_of 0 key)
  many_none h = holds_cong h (λ c _. among_none key (λ _. true) c ∙ sym (many_among key 0 c))

  pub many_more : (k : ℕ) {n : ℕ} {out : List ℕ} → Holds n out (many_of k key) → get_or key k 0 < n
      → Holds n (set out (get_or key k 0) (get_or out (get_or key k 0) 0 + 1)) (many_of (k + 1) key)
  many_more k h l =
      holds_cong (among-more key (λ _. true) k (holds_cong h (λ c _. many_among key k c)) l refl refl)
      (λ c _. sym (many_among key (k + 1) c))

  pub many_le : (k c : ℕ) → many_of k key c ≤ k
  many_le k c = rw (many_among key k c) (among-le key (λ _. true) k c)
