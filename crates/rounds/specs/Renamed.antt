-- The split of one block, in rows of plain numbers.
use Rattle.std.specs.Prelude.{ℕ, cond, List, get_or, leb}
use Rattle.arena.specs.Sets.{Set}
use Rattle.blocks.specs.Parts.{apart}
use Rattle.chains.specs.Lent.{cell_at}

-- the states that have as many moves as they need
abbrev pub enough : List ℕ → List ℕ → Set
enough need have s = leb (get_or need s 0) (get_or have s 0)

-- the part that gets a new name, by a row of blocks
abbrev pub row_apart : List ℕ → ℕ → Set → Set
row_apart block = apart (cell_at block)

-- the block of each state once that part has a name of its own
abbrev pub after_split : ℕ → List ℕ → ℕ → Set → ℕ → ℕ
after_split name block b C s = cond (row_apart block b C s) name (get_or block s 0)
