-- `link` meets its contract: the places passed are linked.
use Prim.Native.Nat.{◌≤◌}
use mathlib.Core.Path.{◌≡◌}
use lib.ListN.{length, get_or}
use Rattle.chains.specs.Lent.{Holds, last_below}
use Rattle.chains.proofs.link.Given as goal

abbrev pub invariant-loop-k : goal.invariant-loop-k
invariant-loop-k l =
    (l.k ≤ l.m) × Holds l.n l.last (last_below l.key l.k) × Holds l.k l.before (λ j. last_below l.key j (get_or l.key j 0)) × (length l.last ≡ length l.initial.last) × (length l.before ≡ length l.initial.before)
