-- `plain_states` meets its contract.
use mathlib.Core.Path.{◌≡◌}
use Prim.Native.Nat.{◌≤◌}
use lib.ListN.{length}
use Rattle.game.specs.Rows.{fill}
use Rattle.file.specs.Layout.{turn as turn_of, marks as marks_of, block as block_of}
use Rattle.decoding.proofs.plain.plain_states.Given as goal

abbrev pub invariant-loop-s : goal.invariant-loop-s
invariant-loop-s l =
    (l.s ≤ l.n)
    × (l.turn ≡ fill l.s (turn_of l.file) l.initial.turn)
    × (l.marks ≡ fill l.s (marks_of l.file) l.initial.marks)
    × (l.block ≡ fill l.s (block_of l.file) l.initial.block)
    × (length l.turn ≡ length l.initial.turn)
    × (length l.marks ≡ length l.initial.marks)
    × (length l.block ≡ length l.initial.block)
