-- `list_states` meets its contract: the queue lists the states passed.
use Prim.Native.Nat.{◌≤◌}
use mathlib.Core.Path.{◌≡◌}
use lib.ListN.{length}
use Rattle.growth.specs.Queue.{Listed}
use Rattle.growth.proofs.enter.list_states.Given as goal

abbrev pub invariant-loop-s : goal.invariant-loop-s
invariant-loop-s l =
    (l.s ≤ l.n) × (l.tail ≤ l.s) × Listed l.s l.row l.queue l.tail × (length l.queue ≡ length l.initial.queue)
