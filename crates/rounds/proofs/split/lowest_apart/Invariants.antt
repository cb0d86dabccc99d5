-- `lowest_apart` meets its contract: no state passed is such a member.
use Prim.Native.Nat.{◌≤◌}
use mathlib.Core.Path.{◌≡◌}
use mathlib.Core.Bool.{false}
use Rattle.arena.specs.Sets.{some}
use Rattle.rounds.specs.Renamed.{enough, row_apart}
use Rattle.rounds.proofs.split.lowest_apart.Given as goal

abbrev pub invariant-loop-s : goal.invariant-loop-s
invariant-loop-s l =
    (l.s ≤ l.n) × (some l.s (row_apart l.block l.b (enough l.need l.have)) ≡ false)
