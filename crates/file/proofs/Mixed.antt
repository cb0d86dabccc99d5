-- When a block is mixed: held against the state that names its block, each state tells.
use mathlib.Core.Path.{◌≡◌, refl, sym, ap, subst, ◌∙◌}
use mathlib.Core.Bool.{Bool, true, false, not, ◌&&◌, beq, Bool-discrete, true≢false}
use mathlib.Core.List.{List}
use Prim.Native.Nat.{ℕ, ◌<◌}
use native.Mathlib.Omega.{arith}
use lib.Dec.{T, T_not, eqb, eqb→eq}
use borrow.Author.Tests.{eq-eqb}
use Rattle.arena.specs.Sets.{Set, compl, some}
use Rattle.arena.proofs.Tests.{is_false, holds, beq_refl, beq→eq, opposite}
use Rattle.arena.proofs.Sets.{meets-out}
use Rattle.arena.proofs.Loops.{some_found, some_one}
use Rattle.file.specs.Layout.{states, block}
use Rattle.file.specs.Refusals.{member, mixed}
use Rattle.file.specs.Sound.{Sound}

-- what `x != y` says of two Bools
pub beq_apart : (x y : Bool) → not (beq x y) ≡ true → x ≡ y → ⊥
beq_apart x y h e = T_not (beq x y) (holds _ h) (rw e (beq_refl y))

module _ (f : List ℕ) (X : Set) where
  -- members s and t of block b, one in X and one not
  mixed_by : (b s t : ℕ) → b < states f → s < states f → t < states f → block f s ≡ b → block f t ≡ b → X s ≡ true → X t ≡ false → true ≡ mixed f X
  unfolding mixed
  mixed_by b s t lb ls lt es et xs xt =
      sym
      (some_found (states f) _ b lb
      (rw (
        some_found (states f) (λ s. eqb (block f s) b && X s) s ls (rw (eq-eqb _ _ es, xs) refl),
        some_found (states f) (λ s. eqb (block f s) b && not (X s)) t lt (rw (eq-eqb _ _ et, xt) refl),
      ) refl))

  -- a state that differs from the one that names its block
  pub mixed_found : Sound f → (s : ℕ) → s < states f → (X s ≡ X (block f s) → ⊥) → true ≡ mixed f X
  mixed_found g s l ne = go (X (block f s)) refl (omega (arith, g.below s l))
    where
      go : (y : Bool) → X (block f s) ≡ y → block f s < states f → true ≡ mixed f X
      go true q low = mixed_by (block f s) (block f s) s low low l (g.own s l) refl q (opposite _ _ ne ∙ ap not q)
      go false q low = mixed_by (block f s) s (block f s) low l low refl (g.own s l) (opposite _ _ ne ∙ ap not q) q

  -- with no mixed block each state is as the one that names its block
  pub uniform : Sound f → mixed f X ≡ false → (s : ℕ) → s < states f → X s ≡ X (block f s)
  uniform g e s l = elim (Bool-discrete (X s) (X (block f s))) [ yes p ↦ p | no ne ↦ absurd (true≢false (mixed_found g s l ne ∙ e)) ]

  -- where each state is as the one that names its block, no block is mixed
  pub mixed-none : ((s : ℕ) → s < states f → X s ≡ X (block f s)) → false ≡ mixed f X
  unfolding mixed
  mixed-none h = sym (is_false (mixed f X) (λ m.
      let w = meets-out (states f) (member f X) (member f (compl X)) m in
      T_not (X w.0) (first (compl X) (λ s l. ap not (h s l)) w.0 w.3) (first X h w.0 w.2)))
    where
      -- a member of b in Y says that b is in Y
      first : (Y : Set) → ((s : ℕ) → s < states f → Y s ≡ Y (block f s)) → (b : ℕ) → T (member f Y b) → T (Y b)
      first Y same b p =
          let w = meets-out (states f) (λ s. eqb (block f s) b) Y p in
          subst T (same w.0 w.1 ∙ ap Y (eqb→eq _ _ w.2)) w.3

  -- whether a state differs from the one that names its block
  abbrev pub differs : Set
  differs s = not (beq (X s) (X (block f s)))

  -- some state differs where some block is mixed, and only there
  pub mixed_searched : Sound f → (r : Bool) → r ≡ some (states f) differs → r ≡ mixed f X
  mixed_searched g true e = let w = some_one (states f) differs (sym e) in mixed_found g w.0 w.1 (beq_apart _ _ w.2)
  mixed_searched g false e = mixed-none (λ s l.
      elim (Bool-discrete (X s) (X (block f s))) [
        | yes p ↦ p
        | no ne ↦ absurd (true≢false (sym (some_found (states f) differs s l (ap not (is_false (beq (X s) (X (block f s))) (λ t. ne (beq→eq _ _ t))))) ∙ sym e))
      ])
