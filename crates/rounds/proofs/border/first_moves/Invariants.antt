-- `first_moves` meets its contract: the moves passed have told where the next state's begin.
use Prim.Native.Nat.{suc, ◌≤◌}
use mathlib.Core.Path.{◌≡◌}
use lib.ListN.{length, get_or}
use Rattle.chains.specs.Lent.{Holds}
use Rattle.rounds.specs.Search.{first_move}
use Rattle.rounds.proofs.border.first_moves.Given as goal

abbrev pub invariant-loop-k : goal.invariant-loop-k
invariant-loop-k l =
    (l.k ≤ l.m) × Holds (suc l.n) l.first (first_move (λ j. get_or l.from j 0) l.k) × (length l.first ≡ length l.initial.first)
