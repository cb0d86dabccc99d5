-- `plain_moves` meets its contract.
use mathlib.Core.Path.{◌≡◌}
use Prim.Native.Nat.{◌≤◌}
use lib.ListN.{length}
use Rattle.game.specs.Rows.{fill}
use Rattle.file.specs.Layout.{from as from_of, to as to_of}
use Rattle.decoding.proofs.plain.plain_moves.Given as goal

abbrev pub invariant-loop-k : goal.invariant-loop-k
invariant-loop-k l =
    (l.k ≤ l.m)
    × (l.from ≡ fill l.k (from_of l.file) l.initial.from)
    × (l.to ≡ fill l.k (to_of l.file) l.initial.to)
    × (length l.from ≡ length l.initial.from)
    × (length l.to ≡ length l.initial.to)
