-- The two parts of a split block, as the code tells them.
use Rattle.std.specs.Prelude.{ℕ, not, ◌&&◌, eqb}
use Rattle.std.specs.Bool.{beq}
use Rattle.arena.specs.Sets.{Set}

-- the members of block b that lie in C unlike b itself: the part that gets a new name
abbrev pub apart : (ℕ → ℕ) → ℕ → Set → Set
apart block b C t = eqb (block t) b && not (beq (C t) (C b))
