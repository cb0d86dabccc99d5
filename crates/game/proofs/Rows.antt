-- Laws of rows: fill and Cells, in the form that a loop's proof can use.
use mathlib.Core.Path.{◌≡◌, refl, sym, ap, ap₂, ◌∙◌}
use mathlib.Core.List.{List, [], ◌∷◌, ◌++◌}
use Prim.Native.Nat.{ℕ, zero, suc, ◌+◌, ◌-◌, ◌≤◌, ◌<◌}
use native.Mathlib.Decide.{ℕ_discrete}
use native.Mathlib.Nat.{le_of_suc-le-suc, not-suc-le-zero, add-zero, zero-add, suc-add, add-suc}
use native.Mathlib.Numerals.{add-one}
use native.Mathlib.Omega.{arith}
use borrow.Author.Rules.{rules}
use borrow.Author.Tests.{eq-eqb, ne_eqb}
use lib.ListN.{length, get_or, set, drop, length-set, length-append, length-drop, length-replicate, get_or-replicate, get_or-append}
use lib.Seq.{drop_at, ext_get_or, get_or-append-add, get_or-drop, get_or-set_same, get_or-set_other}
use Rattle.arena.proofs.Loops.{some_more, tests}
use Rattle.game.specs.Rows.{tabulate, fill, blank, zeros, Cells}

-- ## Rows

module _ {A : Type 0} where
  tab_suc : (n i : ℕ) (f : ℕ → A) (d : List A) → n < length d → set (tabulate i n f ++ drop n d) n (f (n + i)) ≡ tabulate i (suc n) f ++ drop (suc n) d
  unfolding tabulate
  tab_suc n i f [] l = absurd (not-suc-le-zero l)
  tab_suc zero i f (x ∷ d) l = rw zero-add
  tab_suc (suc n) i f (x ∷ d) l = ap (λ (t : List A). f i ∷ t) (rw suc-add (rw (← add-suc) (tab_suc n (suc i) f d (le_of_suc-le-suc l))))

  -- a loop that fills cells in order: no cell yet, a turn, and the end
  pub fill_none : (f : ℕ → A) (d : List A) → d ≡ fill 0 f d
  unfolding tabulate fill
  fill_none f d = refl

  pub fill_store : (n : ℕ) (f : ℕ → A) (d : List A) → n < length d → (l : List A) → l ≡ fill n f d → (v : A) → v ≡ f n → set l n v ≡ fill (n + 1) f d
  unfolding fill
  fill_store n f d h l e v q = rw (e, q, add-one) (rw add-zero at (tab_suc n 0 f d h))

  pub fill_done : (k n : ℕ) (f : ℕ → A) (d l : List A) → l ≡ fill k f d → k ≤ n → n ≤ k → l ≡ fill n f d
  fill_done k n f d l e h g = let q : k ≡ n = omega arith in rw q at e

  -- a table of n values has n places
  tab_length : (n i : ℕ) (f : ℕ → A) → length (tabulate i n f) ≡ n
  unfolding tabulate
  tab_length zero i f = refl
  tab_length (suc n) i f = ap suc (tab_length n (suc i) f)

  -- and they hold the values
  tab_cell : (n i : ℕ) (f : ℕ → A) (k : ℕ) (a : A) → k < n → get_or (tabulate i n f) k a ≡ f (k + i)
  unfolding tabulate
  tab_cell zero i f k a l = absurd (not-suc-le-zero l)
  tab_cell (suc n) i f zero a l = rw zero-add
  tab_cell (suc n) i f (suc k) a l = tab_cell n (suc i) f k a (le_of_suc-le-suc l) ∙ ap f (add-suc k i ∙ sym (suc-add k i))

  pub fill-cell : (n : ℕ) (f : ℕ → A) (d : List A) (k : ℕ) (a : A) → k < n → get_or (fill n f d) k a ≡ f k
  unfolding fill
  fill-cell n f d k a l = get_or-append (tabulate 0 n f) (drop n d) a k (rw tab_length l) ∙ tab_cell n 0 f k a l ∙ ap f (add-zero k)

  pub fill-past : (n : ℕ) (f : ℕ → A) (d : List A) (k : ℕ) (a : A) → n ≤ k → get_or (fill n f d) k a ≡ get_or d k a
  unfolding fill
  fill-past n f d k a l =
      let past : n + (k - n) ≡ k = omega arith in
      let at : length (tabulate 0 n f) + (k - n) ≡ k = rw tab_length past in
      (rw at at (get_or-append-add (tabulate 0 n f) (drop n d) (k - n) a)) ∙ (rw past at (get_or-drop n d (k - n) a))

  pub fill-length : (n : ℕ) (f : ℕ → A) (d : List A) → n ≤ length d → length (fill n f d) ≡ length d
  unfolding fill
  fill-length n f d l = simp (length-append, length-drop, tab_length) (omega arith)

  tab_cong : (n i : ℕ) (f g : ℕ → A) → ((k : ℕ) → k < n → f (k + i) ≡ g (k + i)) → tabulate i n f ≡ tabulate i n g
  unfolding tabulate
  tab_cong zero i f g h = refl
  tab_cong (suc n) i f g h =
      ap₂ ◌∷◌ (rw zero-add at (h 0 (omega arith)))
      (tab_cong n (suc i) f g (λ k l. rw (add-suc, ← suc-add) (h (suc k) (omega arith))))

  -- rows filled alike are equal
  pub fill_cong : (n : ℕ) (f g : ℕ → A) (d : List A) → ((k : ℕ) → k < n → f k ≡ g k) → fill n f d ≡ fill n g d
  unfolding fill
  fill_cong n f g d h = ap (λ (t : List A). t ++ drop n d) (tab_cong n 0 f g (λ k l. rw add-zero (h k l)))

  -- filled with the values of another row, a row begins with that one
  pub fill-row : (row : List A) (f : ℕ → A) (a : A) (d : List A) → ((k : ℕ) → k < length row → f k ≡ get_or row k a) → fill (length row) f d ≡ row ++ drop (length row) d
  unfolding fill
  fill-row row f a d h =
      let n = length row in
      ap (λ (t : List A). t ++ drop n d) (ext_get_or a (tabulate 0 n f) row (tab_length n 0 f)
      (λ k l. let m : k < n = rw tab_length at l in tab_cell n 0 f k a m ∙ rw add-zero (h k m)))

  -- the places that are not filled are the row's
  pub fill-drop : (n : ℕ) (f : ℕ → A) (d : List A) → drop n (fill n f d) ≡ drop n d
  unfolding fill
  fill-drop n f d = drop_at (tabulate 0 n f) (drop n d) n (tab_length n 0 f)

  pub blank-length : (n : ℕ) (a : A) → length (blank n a) ≡ n
  unfolding blank
  blank-length n a = length-replicate n a

  pub blank-cell : (n k : ℕ) (a : A) → get_or (blank n a) k a ≡ a
  unfolding blank
  blank-cell zero k a = refl
  blank-cell (suc n) zero a = refl
  blank-cell (suc n) (suc k) a = blank-cell n k a

pub fill_at : (n : ℕ) (f : ℕ → ℕ) (d : List ℕ) (k : ℕ) → k < n → get_or (fill n f d) k 0 ≡ f k
fill_at n f d k l = fill-cell n f d k 0 l

pub zeros-length : (n : ℕ) → length (zeros n) ≡ n
zeros-length n = blank-length {A = ℕ} n 0

pub blank_at : (n a s : ℕ) → s < n → get_or (blank n a) s 0 ≡ a
unfolding blank
blank_at n a s l = get_or-replicate n s a 0 l

pub zeros_at : (n s : ℕ) → get_or (zeros n) s 0 ≡ 0
zeros_at n s = blank-cell n s 0

-- ## A loop that stores anywhere

-- after a store of v at i: f' has v there, and is f elsewhere
pub cells_store : {n : ℕ} {l l' : List ℕ} {f : ℕ → ℕ} {f' : ℕ → ℕ} (i v : ℕ) → Cells n l f → l' ≡ set l i v → i < n → v ≡ f' i → ((s : ℕ) → (s ≡ i → ⊥) → f s ≡ f' s) → Cells n l' f'
cells_store {n} {l} {l'} {f} {f'} i v c w h q keep =
    rw w (record { long = length-set l i v ∙ c.long; cell = at })
  where
    at : (s : ℕ) → s < n → get_or (set l i v) s 0 ≡ f' s
    at s b = elim (ℕ_discrete s i) [ yes p ↦ rw p (get_or-set_same l i v 0 (rw c.long h) ∙ q) | no p ↦ get_or-set_other l i s v 0 p ∙ c.cell s b ∙ keep s p ]

pub ruleset walk = (tests, fill_none, fill_done, eq-eqb, ne_eqb, rules)
