-- Rows of passes: a row holds for each state the pass in which it entered a set that grows, and 0 where it has not.
use Rattle.std.specs.Prelude.{ℕ, zero, suc, Bool, not, cond, List, get_or, eqb}
use Rattle.arena.specs.Sets.{Set, bit}
use Rattle.game.specs.Game.{block_at}
use Rattle.game.specs.Published.{side_of, arena_of}
use Rattle.game.specs.declared.Game.{Game}
use Rattle.blocks.specs.Round.{inside_step, meets_step}

-- the pass that stands at each place of a row
abbrev pub pass_at : List ℕ → ℕ → ℕ
pass_at row s = get_or row s 0

-- the states whose pass is not 0
abbrev pub entered : (ℕ → ℕ) → Set
entered f s = not (eqb (f s) 0)

-- the set that a row of passes says
abbrev pub is_in : List ℕ → Set
is_in row s = entered (pass_at row) s

-- a state that has a pass keeps it, and one that joins now gets this number
unfoldable pub pass_no : ℕ → Bool → ℕ → ℕ
pass_no own joins number = cond (eqb own 0) (cond joins number 0) own

-- the passes of all states, each that qualifies by what is there having joined with this number
abbrev pub one_pass : (Set → Set) → (ℕ → ℕ) → ℕ → ℕ → ℕ
one_pass step f number s = pass_no (f s) (step (entered f) s) number

-- the passes of all states, k further passes after those of f; pass 1 is what was there at first
unfoldable pub stamp_from : (Set → Set) → (ℕ → ℕ) → ℕ → ℕ → ℕ
stamp_from step f zero s = f s
stamp_from step f (suc k) s = one_pass step (stamp_from step f k) (suc (suc k)) s

-- 01, 'One round': the pass in which each state entered, k passes after the set A, which is pass 1
abbrev pub stamp : (Set → Set) → Set → ℕ → ℕ → ℕ
stamp step A k s = stamp_from step (λ t. bit (A t)) k s

-- 01, 'One round': the blocks that join X, wholly inside the side's forced-step set of it, or meeting that set
unfoldable pub joining : Game → ℕ → Bool → Set → Set
joining g side whole X =
    cond whole (inside_step (arena_of g) (block_at g) (side_of side) X) (meets_step (arena_of g) (block_at g) (side_of side) X)
