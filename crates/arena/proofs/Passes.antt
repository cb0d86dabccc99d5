-- Laws of passes: they come to rest, dropping is growing seen from outside, and a falling rank leads into the set.
use Prim.Native.Nat.{ℕ, zero, suc, ◌+◌, ◌≤◌, ◌<◌, zero-le}
use mathlib.Core.Path.{◌≡◌, sym, subst, fun_ext}
use mathlib.Core.Bool.{not}
use mathlib.Core.Logic.{◌⊎◌, inl, inr, ◌↔◌}
use native.Mathlib.Nat.{le_refl}
use native.Mathlib.Decide.{le_ind}
use native.Mathlib.Omega.{arith}
use lib.Dec.{T, ltb→lt}
use Rattle.arena.specs.Sets.{Set, compl, count}
use Rattle.arena.specs.Passes.{grow, shrink, rank, nearer}
use Rattle.arena.proofs.Tests.{T_ext, or_l, or_r, or_elim, or_mono, nor}
use Rattle.arena.proofs.Sets.{Sub, compl-compl, count-le, count_grows, least-le, least_hit}

-- a monotone operator: from a larger set it makes a larger one
abbrev pub Mono : ℕ → (Set → Set) → Type 0
Mono n F = (X Y : Set) → Sub n X Y → Sub n (F X) (F Y)

-- of sets that agree below n a monotone operator makes sets that agree below n
pub mono_ext : (n : ℕ) (F : Set → Set) → Mono n F → (X Y : Set) → ((s : ℕ) → s < n → X s ≡ Y s) → (s : ℕ) → s < n → F X s ≡ F Y s
mono_ext n F mono X Y e s l =
    T_ext (F X s) (F Y s) (mono X Y (λ t m. subst T (e t m)) s l) (mono Y X (λ t m. subst T (sym (e t m))) s l)

-- ## Growing

-- what is there after j passes is there after more
pub grow-le : (F : Set → Set) (A : Set) (j k s : ℕ) → j ≤ k → T (grow F A j s) → T (grow F A k s)
unfolding grow
grow-le F A j k s l h = le_ind (λ k. T (grow F A k s)) h (λ m _ x. or_l (grow F A m s) (F (grow F A m) s) x) k l

module _ (n : ℕ) (F : Set → Set) (mono : Mono n F) (A : Set) where
  -- after a pass that adds nothing the next adds nothing
  pub grow_still : (k : ℕ) → Sub n (grow F A (suc k)) (grow F A k) → Sub n (grow F A (suc (suc k))) (grow F A (suc k))
  unfolding grow
  grow_still k h s l =
      or_elim (grow F A (suc k) s) (F (grow F A (suc k)) s) (λ y. y)
      (λ y. or_r (grow F A k s) (F (grow F A k) s) (mono (grow F A (suc k)) (grow F A k) h s l y))

  -- pass k + 1 adds nothing, or each pass so far has added a member
  grow-counts : (k : ℕ) → Sub n (grow F A (suc k)) (grow F A k) ⊎ (count n A + suc k ≤ count n (grow F A (suc k)))
  unfolding grow
  grow-counts zero = elim (count_grows n A (grow F A 1) (λ s l. or_l (A s) (F A s))) [ inl same ↦ inl same | inr lt ↦ inr (omega arith) ]
  grow-counts (suc k) = elim (grow-counts k) [
    | inl same ↦ inl (grow_still k same)
    | inr big ↦ elim (count_grows n (grow F A (suc k)) (grow F A (suc (suc k))) (λ s l. grow-le F A (suc k) (suc (suc k)) s (omega arith))) [
      | inl same ↦ inl same
      | inr lt ↦ inr (omega arith)
    ]
  ]

  -- after as many passes as there are numbers outside A nothing is added
  pub grow_stable : (k : ℕ) → n ≤ count n A + k → Sub n (grow F A (suc k)) (grow F A k)
  grow_stable k h = elim (grow-counts k) [
    | inl same ↦ same
    | inr big ↦ absurd (let c = count-le n (grow F A (suc k)) in omega arith)
  ]

  -- F of what is there after so many passes is there
  pub grow-closed : (k : ℕ) → n ≤ count n A + k → Sub n (F (grow F A k)) (grow F A k)
  unfolding grow
  grow-closed k h s l x = grow_stable k h s l (or_r (grow F A k s) (F (grow F A k) s) x)

  -- what grows from A lies in each set that holds A and F of itself
  pub grow-least : (B : Set) → Sub n A B → Sub n (F B) B → (k : ℕ) → Sub n (grow F A k) B
  unfolding grow
  grow-least B ab fb zero s l = ab s l
  grow-least B ab fb (suc k) s l =
      let ih = grow-least B ab fb k in
      or_elim (grow F A k s) (F (grow F A k) s) (ih s l) (λ y. fb s l (mono (grow F A k) B ih s l y))

  -- as many passes as there are numbers outside A bring in all that any number of passes does
  pub grow-rest : (k : ℕ) → n ≤ count n A + k → (m : ℕ) → Sub n (grow F A m) (grow F A k)
  unfolding grow
  grow-rest k b = grow-least (grow F A k) (λ s l. grow-le F A 0 k s zero-le) (grow-closed k b)

-- a smaller operator grows a smaller set into a smaller one
pub grow-sub : (n : ℕ) (F G : Set → Set) → ((X : Set) → Sub n (F X) (G X)) → Mono n G → (A B : Set) → Sub n A B → (k : ℕ) → Sub n (grow F A k) (grow G B k)
unfolding grow
grow-sub n F G fg mono A B ab zero s l x = ab s l x
grow-sub n F G fg mono A B ab (suc k) s l x =
    let ih = grow-sub n F G fg mono A B ab k in
    or_mono (grow F A k s) (F (grow F A k) s) (grow G B k s) (G (grow G B k) s) (ih s l)
    (λ y. mono (grow F A k) (grow G B k) ih s l (fg (grow F A k) s l y)) x

-- from any start between A and what grows from it the same set grows
pub grow_between : (n : ℕ) (F : Set → Set) → Mono n F → (A X : Set) → Sub n A X → Sub n X (grow F A n)
    → (s : ℕ) → s < n → grow F X n s ≡ grow F A n s
grow_between n F mono A X ax xa s l =
    T_ext (grow F X n s) (grow F A n s) (grow-least n F mono X (grow F A n) xa (grow-closed n F mono A n (omega arith)) n s l)
    (grow-sub n F F (λ Y t m x. x) mono A X ax n s l)

-- ## Dropping

-- where F of a complement is the complement of G, dropping by F is growing by G outside
pub shrink-grow : (F G : Set → Set) → ((X : Set) (s : ℕ) → F (compl X) s ≡ not (G X s)) → (A : Set) (k : ℕ) → shrink F A k ≡ compl (grow G (compl A) k)
unfolding shrink grow
shrink-grow F G d A zero = sym (compl-compl A)
shrink-grow F G d A (suc k) =
    fun_ext (λ s. rw (shrink-grow F G d A k) (rw (d (grow G (compl A) k) s) (nor (grow G (compl A) k s) (G (grow G (compl A) k) s))))

-- ## Ranks

-- a state has a rank of at most k exactly where it is in the set after k passes
pub rank-le : (n : ℕ) (F : Set → Set) (A : Set) (k s : ℕ) → k ≤ n → (rank n F A s ≤ k) ↔ T (grow F A k s)
unfolding rank
rank-le n F A k s b = (
  (λ r. grow-le F A (rank n F A s) k s r (least_hit (suc n) (λ k. grow F A k s) (omega arith))),
  least-le (suc n) (λ k. grow F A k s) k,
)

module _ (n : ℕ) (F : Set → Set) (A : Set) (p : ℕ → ℕ)
    (falls : (j k : ℕ) → k ≤ n → T (grow F A k (p j)) → T (A (p j)) ⊎ T (nearer n F A (p j) (p (suc j)))) where
  -- a sequence that comes nearer until it is in A is in A within k steps of a state of pass k
  pub descent : (k j : ℕ) → k ≤ n → T (grow F A k (p j)) → (m : ℕ) × (j ≤ m) × (m ≤ j + k) × T (A (p m))
  unfolding grow
  descent zero j b h = (j, le_refl j, omega arith, h)
  descent (suc k) j b h = elim (falls j (suc k) b h) [
    | inl a ↦ (j, le_refl j, omega arith, a)
    | inr f ↦ (
        let d = ltb→lt (rank n F A (p (suc j))) (rank n F A (p j)) f in
        let r = (rank-le n F A (suc k) (p j) b).1 h in
        let m = descent k (suc j) (omega arith) ((rank-le n F A k (p (suc j)) (omega arith)).0 (omega arith)) in
        (m.0, omega arith, omega arith, m.3))
  ]
