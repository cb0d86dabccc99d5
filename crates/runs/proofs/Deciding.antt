-- Whether the hunting side has its way, as a walk over the starts finds it: some start decides, or none does.
use Prim.Native.Nat.{ℕ, zero, suc, ◌≤◌}
use mathlib.Core.Path.{◌≡◌, refl, sym, ap, ◌∙◌}
use mathlib.Core.Bool.{Bool, true, false, not, ◌&&◌, cond, beq}
use mathlib.Core.List.{List}
use native.Mathlib.Numerals.{add-one}
use native.Mathlib.Omega.{arith}
use lib.ListN.{length, get_or, take}
use lib.Dec.{eqb}
use Rattle.std.specs.List.{list_any, zip}
use Rattle.std.proofs.lemmas.List.{get_or-take, length-take-le, take_all}
use Rattle.std.proofs.lemmas.List.Folds.{list_any_more}
use Rattle.std.proofs.lemmas.Slice.Zip.{get_or-zip, length-zip}
use Rattle.arena.specs.Sets.{Set, imp, some, every}
use Rattle.arena.specs.Win.{to_reach, to_stay}
use Rattle.arena.proofs.Tests.{not-not}
use Rattle.arena.proofs.Loops.{some-zero, some_more, some_cong}
use Rattle.arena.proofs.Sets.{not-every}
use Rattle.game.specs.Game.{marked}
use Rattle.game.specs.Published.{goal_of}
use Rattle.growth.specs.Stamp.{is_in}
use Rattle.runs.specs.Hunting.{has_way}

-- the starts that decide: those in X for reach, those outside it for stay
abbrev pub deciding : Bool → Set → Set → Set
deciding reach starts X s = starts s && beq (X s) reach

-- by reach the hunting side has its way where some start decides, and by stay where none does
way_is : (o n : ℕ) (starts X : Set) → has_way (goal_of o) n starts X ≡ beq (some n (deciding (eqb o 1) starts X)) (eqb o 1)
unfolding has_way
way_is o n starts X = go (eqb o 1) ∙ turned (eqb o 1) (some n (deciding (eqb o 1) starts X))
  where
    inside : (a b : Bool) → (a && b) ≡ (a && beq b true)
    inside a true = refl
    inside a false = refl

    outside : (a b : Bool) → not (imp a b) ≡ (a && beq b false)
    outside true true = refl
    outside true false = refl
    outside false b = refl

    turned : (r x : Bool) → cond r x (not x) ≡ beq x r
    turned true true = refl
    turned true false = refl
    turned false true = refl
    turned false false = refl

    go : (r : Bool) → has_way (cond r to_reach to_stay) n starts X ≡ cond r (some n (deciding r starts X)) (not (some n (deciding r starts X)))
    go true = some_cong n _ _ (λ s _. inside (starts s) (X s))
    go false =
        let kept : Set = λ s. imp (starts s) (X s) in
        sym (not-not (every n kept)) ∙ ap not (sym (not-every n kept) ∙ some_cong n _ _ (λ s _. outside (starts s) (X s)))

-- one of the first k items passes the test
any_some : {A : Type 0} (p : A → Bool) (xs : List A) (d : A) (k : ℕ) → k ≤ length xs → list_any p (take k xs) ≡ some k (λ s. p (get_or xs s d))
any_some p xs d zero l = sym (some-zero _)
any_some p xs d (suc k) l =
    rw (← add-one) (list_any_more p xs k d (omega arith) ∙ rw (any_some p xs d k (omega arith), some_more) refl)

-- one of the first n pairs of two rows passes the test
pairs_some : (p : ℕ × ℕ → Bool) (n : ℕ) (xs ys : List ℕ) → n ≤ length xs → n ≤ length ys
    → list_any p (zip (take n xs) (take n ys)) ≡ some n (λ s. p (get_or xs s 0, get_or ys s 0))
pairs_some p n xs ys l m =
    let pairs = zip (take n xs) (take n ys) in
    let one : length (take n xs) ≡ n = length-take-le n xs l in
    let two : length (take n ys) ≡ n = length-take-le n ys m in
    let long : length pairs ≡ n = length-zip (take n xs) (take n ys) ∙ rw (one, two) (omega arith) in
    ap (list_any p) (sym (take_all n pairs (omega arith)))
    ∙ any_some p pairs (0, 0) n (omega arith)
    ∙ some_cong n _ _ (λ s b. ap p (get_or-zip (take n xs) (take n ys) s (0, 0) (omega arith) (omega arith) ∙ rw (get_or-take n xs s 0 b, get_or-take n ys s 0 b) refl))

-- whether some start among the first n pairs decides tells whether the hunting side has its way; r is what a call gave
pub way_found : (o n : ℕ) (starts row : List ℕ) → n ≤ length starts → n ≤ length row → {r : Bool}
    → r ≡ list_any (λ (p : ℕ × ℕ). marked 1 p.0 && beq (not (eqb p.1 0)) (eqb o 1)) (zip (take n starts) (take n row))
    → beq r (eqb o 1) ≡ has_way (goal_of o) n (λ s. marked 1 (get_or starts s 0)) (is_in row)
way_found o n starts row l m e = rw (e, pairs_some _ n starts row l m) (sym (way_is o n _ _))
