-- `border_block` meets its contract: no block passed is a border block, no member passed of the present block is in the
-- forced-step set, and the moves passed of the present member tell what is known of it.
use Prim.Native.Nat.{ℕ, ◌≤◌, ◌<◌}
use mathlib.Core.Path.{◌≡◌}
use mathlib.Core.Bool.{false}
use lib.ListN.{get_or}
use Rattle.arena.specs.Sets.{some}
use Rattle.game.specs.declared.Game.{Game}
use Rattle.growth.specs.Stamp.{is_in}
use Rattle.growth.proofs.Seen.{seen}
use Rattle.rounds.specs.Border.{bordering}
use Rattle.rounds.specs.Grouped.{SearchOn}
use Rattle.rounds.proofs.Searching.{Passed, Outside}
use Rattle.rounds.proofs.border.border_block.Given as goal

abbrev pub invariant-loop-k : goal.invariant-loop-k
invariant-loop-k l =
    (get_or l.board.first.now l.s 0 ≤ l.k) × (l.k ≤ l.board.moves.moves) × (l.end ≤ l.board.moves.moves) × ((j : ℕ) → j < l.end → get_or l.board.moves.to.now j 0 < l.board.moves.states)
    × ((g : Game) → SearchOn g l.board l.block l.members l.hit l.lower → l.known ≡ seen g l.board.side (is_in l.lower) l.k l.s)

abbrev pub invariant-loop-at : goal.invariant-loop-at
invariant-loop-at l =
    Passed l.board.moves.states l.block l.b (Outside l.board l.block l.members l.hit l.lower) l.at

abbrev pub decreases-loop-at : goal.decreases-loop-at
decreases-loop-at l = l.at

abbrev pub invariant-loop-b : goal.invariant-loop-b
invariant-loop-b l =
    (l.b ≤ l.board.moves.states) × ((g : Game) → SearchOn g l.board l.block l.members l.hit l.lower → some l.b (bordering g l.board.side l.lower) ≡ false)
