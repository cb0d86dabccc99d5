-- Laws of blocks: what lies wholly inside a set, what meets it, and sets of whole blocks.
use Prim.Native.Nat.{ℕ, zero, suc, ◌≤◌, ◌<◌}
use mathlib.Core.Path.{◌≡◌, sym, ap, ap₂, ◌∙◌}
use mathlib.Core.Bool.{not, ◌&&◌, ◌||◌}
use lib.Dec.{eqb, eqb_refl}
use Rattle.arena.specs.Sets.{Set, compl, imp, some, every}
use Rattle.arena.specs.Passes.{grow}
use Rattle.arena.proofs.Tests.{imp-not, not-not}
use Rattle.arena.proofs.Sets.{Sub, compl-compl, not_some, meets_in, within-out, meets-sub, within-sub}
use Rattle.arena.proofs.Passes.{Mono}
use Rattle.blocks.specs.Blocks.{inside, meets}

-- 01, 'Numbers and limits': each block is named by its lowest member, and the name's own block is the one it names
pub record Named (n : ℕ) (block : ℕ → ℕ) : Type 0 where
  pub down : (s : ℕ) → s < n → block s ≤ s
  pub own : (s : ℕ) → s < n → block (block s) ≡ block s

-- the states of the block of s
abbrev pub mates : (ℕ → ℕ) → ℕ → Set
mates block s t = eqb (block t) (block s)

-- below n, X is a union of whole blocks: members of one block are in it alike
abbrev pub Whole : ℕ → (ℕ → ℕ) → Set → Type 0
Whole n block X = (s t : ℕ) → s < n → t < n → block s ≡ block t → X s ≡ X t

-- ## Inside and meets

module _ (n : ℕ) (block : ℕ → ℕ) where
  -- a block inside X has its members in X
  pub inside-sub : (X : Set) → Sub n (inside n block X) X
  unfolding inside
  inside-sub X s l h = within-out n (mates block s) X h s l (eqb_refl (block s))

  -- a member of X makes its block meet X
  pub sub-meets : (X : Set) → Sub n X (meets n block X)
  unfolding meets
  sub-meets X s l h = meets_in n (mates block s) X s l (eqb_refl (block s)) h

  -- a larger set has more blocks inside
  pub inside_mono : Mono n (inside n block)
  unfolding inside
  inside_mono X Y h s _ = within-sub n (mates block s) X (mates block s) Y (λ t l m. m) h

  -- a larger set meets more blocks
  pub meets_mono : Mono n (meets n block)
  unfolding meets
  meets_mono X Y h s _ = meets-sub n (mates block s) X (mates block s) Y (λ t l m. m) h

  -- a block lies inside the complement of X exactly where it does not meet X
  pub inside_dual : (X : Set) (s : ℕ) → inside n block (compl X) s ≡ not (meets n block X s)
  unfolding inside meets
  inside_dual X s = simp imp-not (not_some n (λ t. mates block s t && X t))

  -- a block meets the complement of X exactly where it does not lie inside X
  pub meets_dual : (X : Set) (s : ℕ) → meets n block (compl X) s ≡ not (inside n block X s)
  meets_dual X s =
      sym (not-not (meets n block (compl X) s)) ∙ ap not (sym (inside_dual (compl X) s) ∙ ap (λ Y. inside n block Y s) (compl-compl X))

  -- the blocks inside a set are whole
  pub inside-whole : (X : Set) → Whole n block (inside n block X)
  unfolding inside
  inside-whole X s t _ _ e = ap (λ b. every n (λ u. imp (eqb (block u) b) (X u))) e

  -- the blocks that meet a set are whole
  pub meets-whole : (X : Set) → Whole n block (meets n block X)
  unfolding meets
  meets-whole X s t _ _ e = ap (λ b. some n (λ u. eqb (block u) b && X u)) e

  -- ## Whole sets

  -- the complement of whole blocks is whole
  pub compl-whole : (X : Set) → Whole n block X → Whole n block (compl X)
  compl-whole X w s t ls lt e = ap not (w s t ls lt e)

  -- what is in two unions of whole blocks is one
  pub both_whole : (X Y : Set) → Whole n block X → Whole n block Y → Whole n block (λ s. X s && Y s)
  both_whole X Y v w s t ls lt e = ap₂ ◌&&◌ (v s t ls lt e) (w s t ls lt e)

  -- passes that add whole blocks to whole blocks leave whole blocks
  pub grow-whole : (F : Set → Set) → ((X : Set) → Whole n block (F X)) → (A : Set) → Whole n block A → (k : ℕ) → Whole n block (grow F A k)
  unfolding grow
  grow-whole F f A a zero s t ls lt e = a s t ls lt e
  grow-whole F f A a (suc k) s t ls lt e = ap₂ ◌||◌ (grow-whole F f A a k s t ls lt e) (f (grow F A k) s t ls lt e)
