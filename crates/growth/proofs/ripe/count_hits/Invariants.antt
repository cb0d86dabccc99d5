-- `count_hits` meets its contract: the members passed are counted.
use Prim.Native.Nat.{◌≤◌}
use mathlib.Core.Path.{◌≡◌}
use lib.ListN.{length, get_or}
use Rattle.chains.specs.Lent.{Holds}
use Rattle.growth.specs.Net.{hits_of}
use Rattle.growth.proofs.ripe.count_hits.Given as goal

abbrev pub invariant-loop-s : goal.invariant-loop-s
invariant-loop-s l =
    (l.s ≤ l.n) × Holds l.n l.hit (hits_of l.s l.block l.need (λ t. get_or l.have t 0)) × (length l.hit ≡ length l.initial.hit)
