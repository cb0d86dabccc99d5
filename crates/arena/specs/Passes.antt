-- Passes: a set that takes in, or drops, all that qualifies at once.
use Rattle.std.specs.Prelude.{ℕ, zero, suc, ◌&&◌, ◌||◌, ltb}
use Rattle.arena.specs.Sets.{Set, least}

-- 01, 'One round': A after k passes, each of which adds every member of F of what is there
unfoldable pub grow : (Set → Set) → Set → ℕ → Set
grow F A zero s = A s
grow F A (suc k) s = grow F A k s || F (grow F A k) s

-- 01, 'One round': A after k passes, each of which keeps only members of F of what is kept
unfoldable pub shrink : (Set → Set) → Set → ℕ → Set
shrink F A zero s = A s
shrink F A (suc k) s = shrink F A k s && F (shrink F A k) s

-- 01, 'One round': the pass in which s enters, the target's own pass being 0; n + 1 where it has not entered after n
unfoldable pub rank : ℕ → (Set → Set) → Set → ℕ → ℕ
rank n F A s = least (suc n) (λ k. grow F A k s)

-- 01, 'What is handed back': the states that entered in an earlier pass than s
abbrev pub nearer : ℕ → (Set → Set) → Set → ℕ → Set
nearer n F A s t = ltb (rank n F A t) (rank n F A s)
