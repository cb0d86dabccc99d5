-- `count_keys` meets its contract: the keys passed are counted.
use mathlib.Core.Path.{◌≡◌}
use lib.ListN.{length}
use Rattle.chains.specs.Lent.{Holds, many_of}
use Rattle.chains.proofs.count_keys.Given as goal

abbrev pub invariant-loop-c : goal.invariant-loop-c
invariant-loop-c l = Holds l.n l.out (many_of l.c-index l.key) × (length l.out ≡ length l.initial.out)
