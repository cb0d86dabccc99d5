-- `need_row` meets its contract: the places passed say what is needed, the others still how many moves there are.
use Prim.Native.Nat.{◌≤◌}
use mathlib.Core.Path.{◌≡◌}
use mathlib.Core.Bool.{cond}
use lib.ListN.{length, get_or}
use lib.Dec.{eqb}
use Rattle.game.specs.Rows.{fill}
use Rattle.chains.proofs.need_row.Given as goal

abbrev pub invariant-loop-s : goal.invariant-loop-s
invariant-loop-s l =
    (l.s ≤ l.n) × (l.need ≡ fill l.s (λ t. cond (eqb (get_or l.turn t 0) l.side) 1 (get_or l.initial.need t 0)) l.initial.need) × (length l.need ≡ length l.initial.need)
