-- Laws of finer blocks: more is surely brought in, less may be; a split refines, and how it is undone.
use Prim.Native.Nat.{ℕ, ◌<◌}
use mathlib.Core.Path.{◌≡◌, refl, sym, ap, ◌∙◌}
use mathlib.Core.Bool.{Bool, true, false, not, ◌&&◌, cond, beq, true≢false}
use native.Mathlib.Omega.{arith}
use lib.Dec.{T, eqb, eqb→eq}
use borrow.Author.Tests.{eq-eqb}
use Rattle.arena.specs.Sets.{Set, least}
use Rattle.arena.specs.Arena.{Side, Arena, forced}
use Rattle.arena.proofs.Tests.{holds, and_intro, and_l, beq_refl, beq→eq, cond_ind}
use Rattle.arena.proofs.Sets.{Sub, meets-sub, within-sub, least_hit}
use Rattle.arena.proofs.Passes.{grow-sub}
use Rattle.arena.proofs.Least.{least_unique, least_cong}
use Rattle.blocks.specs.Blocks.{part, inside, meets, split}
use Rattle.blocks.specs.Round.{inside_step, meets_step}
use Rattle.blocks.specs.Hunt.{lower, upper}
use Rattle.blocks.specs.Parts.{apart}
use Rattle.blocks.proofs.Blocks.{Named, mates}
use Rattle.blocks.proofs.Hunt.{inside_step_mono, meets_step_mono, lower-upper, upper-closed}

-- below n, each block of `finer` lies in one block of `block`
abbrev pub Refines : ℕ → (ℕ → ℕ) → (ℕ → ℕ) → Type 0
Refines n finer block = (s t : ℕ) → s < n → t < n → finer s ≡ finer t → block s ≡ block t

-- ## Finer blocks

module _ (n : ℕ) (block finer : ℕ → ℕ) (fine : Refines n finer block) where
  -- the states of one finer block are of one block
  mates_refine : (s t : ℕ) → s < n → t < n → T (mates finer s t) → T (mates block s t)
  mates_refine s t l k m = holds (eqb (block t) (block s)) (eq-eqb (block t) (block s) (fine t s k l (eqb→eq (finer t) (finer s) m)))

  -- what lies inside by its block does by its finer block
  pub inside_refine : (X : Set) → Sub n (inside n block X) (inside n finer X)
  unfolding inside
  inside_refine X s l = within-sub n (mates block s) X (mates finer s) X (λ t. mates_refine s t l) (λ t k x. x)

  -- what meets by its finer block does by its block
  pub meets_refine : (X : Set) → Sub n (meets n finer X) (meets n block X)
  unfolding meets
  meets_refine X s l = meets-sub n (mates finer s) X (mates block s) X (λ t. mates_refine s t l) (λ t k x. x)

module _ (g : Arena) (block finer : ℕ → ℕ) (fine : Refines g.size finer block) (i : Side) (A : Set) where
  -- what is surely brought in by blocks is so by finer ones
  pub lower_refine : Sub g.size (lower g block i A) (lower g finer i A)
  unfolding lower
  lower_refine =
      grow-sub g.size (inside_step g block i) (inside_step g finer i) (λ X. inside_refine g.size block finer fine (forced g i X))
      (inside_step_mono g finer i) A A (λ s l x. x) g.size

  -- what may be brought in by finer blocks may be so by blocks
  pub upper_refine : Sub g.size (upper g finer i A) (upper g block i A)
  unfolding upper
  upper_refine =
      grow-sub g.size (meets_step g finer i) (meets_step g block i) (λ X. meets_refine g.size block finer fine (forced g i X))
      (meets_step_mono g block i) A A (λ s l x. x) g.size

-- a block that meets the forced step to what is surely brought in may be brought in
pub meets-upper : (g : Arena) (block : ℕ → ℕ) (i : Side) (A : Set)
    → Sub g.size (meets g.size block (forced g i (lower g block i A))) (upper g block i A)
meets-upper g block i A s l h =
    upper-closed g block i A s l (meets_step_mono g block i (lower g block i A) (upper g block i A) (lower-upper g block i A) s l h)

-- ## A split, and how it is undone

-- of two unlike tests a third is like the one exactly where it is unlike the other
beq_unlike : (a b : Bool) → beq a b ≡ false → (c : Bool) → beq c a ≡ not (beq c b)
beq_unlike true true e c = absurd (true≢false e)
beq_unlike false false e c = absurd (true≢false e)
beq_unlike true false e true = refl
beq_unlike true false e false = refl
beq_unlike false true e true = refl
beq_unlike false true e false = refl

module _ (n : ℕ) (block : ℕ → ℕ) (ok : Named n block) (b : ℕ) (low : b < n) (name : block b ≡ b) (C : Set) (c : ℕ)
    (new : c ≡ least n (apart block b C)) where
  -- a split gives the members of b that lie in C unlike b the number of the lowest of them, and leaves the others theirs
  pub split_is : (s : ℕ) → s < n → split n block b C s ≡ cond (apart block b C s) c (block s)
  unfolding split
  split_is s l = go (eqb (block s) b) refl (beq (C s) (C b)) refl
    where
      go : (x : Bool) → eqb (block s) b ≡ x → (y : Bool) → beq (C s) (C b) ≡ y
          → cond x (least n (part block b C s)) (block s) ≡ cond (x && not y) c (block s)
      go false p y q = refl
      go true p false q = least_cong n _ _ (λ t k. ap (λ x. eqb (block t) b && x) (beq_unlike (C s) (C b) q (C t))) ∙ sym new
      go true p true q =
          least_unique n (part block b C s) b low
          (and_intro (eqb (block b) b) (beq (C b) (C s)) (rw (eq-eqb (block b) b name) tt) (rw (beq→eq (C s) (C b) (holds _ q)) (beq_refl (C b))))
          (λ t k h. omega (arith, ok.down t k, eqb→eq (block t) b (and_l (eqb (block t) b) (beq (C t) (C s)) h)))
          ∙ sym (eqb→eq (block s) b (rw p tt))

  -- the new number read as b again undoes the split
  pub split_undone : (s : ℕ) → s < n → block s ≡ cond (eqb (split n block b C s) c) b (split n block b C s)
  split_undone s l = rw (split_is s l) (go (apart block b C s) refl)
    where
      member : (t : ℕ) → T (apart block b C t) → block t ≡ b
      member t h = eqb→eq (block t) b (and_l (eqb (block t) b) (not (beq (C t) (C b))) h)

      go : (x : Bool) → apart block b C s ≡ x → block s ≡ cond (eqb (cond x c (block s)) c) b (cond x c (block s))
      go true p = member s (holds (apart block b C s) p) ∙ rw (eq-eqb c c refl)
      go false p =
          cond_ind (λ r. block s ≡ r) (eqb (block s) c) b (block s)
          (λ h.
          let e = eqb→eq (block s) c h in
          sym (ok.own s l) ∙ ap block (e ∙ new) ∙ member (least n (apart block b C)) (least_hit n (apart block b C) (omega (arith, ok.down s l))))
          (λ o. refl)
