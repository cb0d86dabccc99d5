-- `undo_split` meets its contract: the places passed have the blocks before the split, the others those after it.
use mathlib.Core.Path.{◌≡◌}
use mathlib.Core.Bool.{cond}
use lib.ListN.{get_or}
use lib.Dec.{eqb}
use Rattle.game.specs.Rows.{fill}
use Rattle.runs.proofs.log.undo_split.Given as goal

abbrev pub invariant-loop-own : goal.invariant-loop-own
invariant-loop-own l =
    l.own-items ≡ fill l.own-index (λ t. cond (eqb (get_or l.initial.own-items t 0) l.name) l.parent (get_or l.initial.own-items t 0)) l.initial.own-items
