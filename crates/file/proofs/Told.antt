-- A row that tells of each state whether some move leads from it.
use mathlib.Core.Path.{◌≡◌, refl, sym, ap, ◌∙◌}
use mathlib.Core.Bool.{Bool, true, false, ◌||◌, or-true, or-false}
use mathlib.Core.List.{List}
use Prim.Native.Nat.{ℕ, zero, suc, ◌+◌, ◌≤◌, ◌<◌}
use native.Mathlib.Omega.{arith}
use native.Mathlib.Decide.{ℕ_discrete}
use lib.Dec.{eqb}
use lib.ListN.{length, get_or, set, take}
use lib.Seq.{get_or-set_same, get_or-set_other}
use borrow.Author.Tests.{eq-eqb, ne_eqb}
use Rattle.std.specs.Bool.{MatchBool}
use Rattle.std.specs.List.{AllWithin, HoldsAt, list_any, range_with_len}
use Rattle.std.proofs.lemmas.List.{get_or-take, length-take-le}
use Rattle.std.proofs.Math.Bool.{or_assoc}
use Rattle.arena.specs.Sets.{Set, some, every}
use Rattle.arena.proofs.Loops.{some-zero, some_more, every_each, every_false}

module _ (n k : ℕ) (row : List Bool) (from : ℕ → ℕ) (long : length row ≡ n) (told : (s : ℕ) → s < n → get_or row s false ≡ some k (λ j. eqb (from j) s)) where
  -- move k leads from x
  pub told_more : (x : ℕ) → x ≡ from k → x < n → (s : ℕ) → s < n → get_or (set row x true) s false ≡ some (k + 1) (λ j. eqb (from j) s)
  told_more x e h s l =
      elim (ℕ_discrete s x) [
        | yes p ↦ rw p (get_or-set_same row x true false (rw long h) ∙ rw (some_more, eq-eqb _ _ (sym e), or-true) refl)
        | no p ↦ get_or-set_other row x s true false p ∙ told s l ∙ rw (some_more, ne_eqb (from k) s (λ q. p (sym q ∙ sym e)), or-false) refl
      ]

-- whether the first n places of a row of answers are all true
pub all_told : (most n : ℕ) (row : List Bool) (X : Set) (r : Bool) → length row ≡ most → n ≤ most → ((s : ℕ) → s < most → get_or row s false ≡ X s)
    → MatchBool r (AllWithin (λ (b : Bool). b ≡ true) (take n row) 0 (length (take n row))) ((k : ℕ) × (k < length (take n row)) × HoldsAt (λ (b : Bool). b ≡ false) (take n row) k)
    → r ≡ every n X
all_told most n row X true long few told w =
    let size : length (take n row) ≡ n = length-take-le n row (rw long few) in
    sym (every_each n X (λ s l. sym (told s (omega arith)) ∙ sym (get_or-take n row s false l) ∙ w s false (omega arith) (rw size l)))
all_told most n row X false long few told w =
    let size : length (take n row) ≡ n = length-take-le n row (rw long few) in
    let inside : w.0 < n = rw size at w.1 in
    every_false n X w.0 inside (sym (told w.0 (omega arith)) ∙ sym (get_or-take n row w.0 false inside) ∙ w.2 false)

-- a search over the n numbers from a on, after those below a
some_from : (X : Set) (a n m : ℕ) → a + n ≡ m → some m X ≡ (some a X || list_any X (range_with_len a n))
some_from X a zero m e = ap (λ k. some k X) (omega (arith, e)) ∙ sym (or-false _)
some_from X a (suc n) m e = some_from X (a + 1) n m (omega (arith, e)) ∙ ap (λ y. y || list_any X (range_with_len (a + 1) n)) (some_more a X) ∙ or_assoc (some a X) (X a) (list_any X (range_with_len (a + 1) n))

-- whether a search over the numbers below n finds one
pub some_listed : (n : ℕ) (X : Set) (r : Bool) → r ≡ list_any X (range_with_len 0 n) → r ≡ some n X
some_listed n X r e = e ∙ sym (some_from X 0 n n (omega arith) ∙ ap (λ y. y || list_any X (range_with_len 0 n)) (some-zero X))
