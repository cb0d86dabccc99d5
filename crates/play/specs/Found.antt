-- What the search for a border block found, as numbers and tests.
use Rattle.std.specs.Prelude.{ℕ, Bool, true, false, Option, Some, None}
use Rattle.game.specs.declared.BlockNo.{BlockNo}

-- no block was found
abbrev pub nothing_found : Option BlockNo → Bool
nothing_found (Some b) = false
nothing_found None = true

-- the number of the block that was found
abbrev pub found_block : Option BlockNo → ℕ
found_block (Some b) = b.0
found_block None = 0
