-- The border block that the next split is to take.
use Rattle.std.specs.Prelude.{ℕ, not, ◌&&◌, cond, List, Option, Some, None}
use Rattle.arena.specs.Sets.{Set, some, least}
use Rattle.arena.specs.Arena.{forced}
use Rattle.game.specs.Game.{block_no, block_at}
use Rattle.game.specs.Published.{side_of, arena_of}
use Rattle.game.specs.declared.BlockNo.{BlockNo}
use Rattle.game.specs.declared.Game.{Game}
use Rattle.blocks.specs.Blocks.{meets, is_block}
use Rattle.growth.specs.Stamp.{is_in}

-- 01, 'One round': b is a block outside the lower row that meets the side's forced-step set of that row's set; such a block is open
unfoldable pub bordering : Game → ℕ → List ℕ → Set
bordering g side lower b =
    is_block (block_at g) b
    && (not (is_in lower b) && meets g.states (block_at g) (forced (arena_of g) (side_of side) (is_in lower)) b)

-- 01, 'One round': the lowest-numbered one of them, if there is one
unfoldable pub border_answer : ℕ → Set → Option BlockNo
border_answer n X = cond (some n X) (Some (block_no (least n X))) None
