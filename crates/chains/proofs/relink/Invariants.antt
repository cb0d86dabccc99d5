-- `relink` meets its contract: the members passed are linked.
use Prim.Native.Nat.{◌≤◌}
use mathlib.Core.Path.{◌≡◌}
use lib.ListN.{length}
use Rattle.chains.proofs.Parting.{Chained}
use Rattle.chains.proofs.relink.Given as goal

abbrev pub invariant-loop-s : goal.invariant-loop-s
invariant-loop-s l =
    (l.s ≤ l.n) × Chained l.block l.b l.initial.before l.n l.s l.last l.size l.before × (length l.before ≡ length l.initial.before)
