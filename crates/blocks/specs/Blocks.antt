-- Blocks. `block s` is the number of the block of state s, and a block's number is its lowest member.
use Rattle.std.specs.Prelude.{ℕ, ◌&&◌, cond, eqb}
use Rattle.std.specs.Bool.{beq}
use Rattle.arena.specs.Sets.{Set, imp, some, every, count, least}

-- 000, definition 10: the states whose block lies wholly inside X
unfoldable pub inside : ℕ → (ℕ → ℕ) → Set → Set
inside n block X s = every n (λ t. imp (eqb (block t) (block s)) (X t))

-- 000, definition 11: the states whose block meets X
unfoldable pub meets : ℕ → (ℕ → ℕ) → Set → Set
meets n block X s = some n (λ t. eqb (block t) (block s) && X t)

-- 01, 'Numbers and limits': b is the number of a block, its lowest member's
abbrev pub is_block : (ℕ → ℕ) → Set
is_block block b = eqb (block b) b

-- 01, 'One round': how many blocks there are
unfoldable pub block_count : ℕ → (ℕ → ℕ) → ℕ
block_count n block = count n (is_block block)

-- 01, 'One round': the members of block b that lie inside C, or outside it, as s does
abbrev pub part : (ℕ → ℕ) → ℕ → Set → ℕ → Set
part block b C s t = eqb (block t) b && beq (C t) (C s)

-- 01, 'One round': block b is split into the members inside C and the others; each part is named by its lowest member
unfoldable pub split : ℕ → (ℕ → ℕ) → ℕ → Set → ℕ → ℕ
split n block b C s = cond (eqb (block s) b) (least n (part block b C s)) (block s)
