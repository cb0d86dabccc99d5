-- `rename_apart` meets its contract: the places passed have the new blocks, the others the old ones.
use Prim.Native.Nat.{◌≤◌}
use mathlib.Core.Path.{◌≡◌}
use lib.ListN.{length}
use Rattle.game.specs.Rows.{fill}
use Rattle.rounds.specs.Renamed.{enough, after_split}
use Rattle.rounds.proofs.split.rename_apart.Given as goal

abbrev pub invariant-loop-s : goal.invariant-loop-s
invariant-loop-s l =
    (l.s ≤ l.n) × (l.block ≡ fill l.s (after_split l.name l.initial.block l.b (enough l.need l.have)) l.initial.block) × (length l.block ≡ length l.initial.block)
