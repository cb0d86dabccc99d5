-- `moved_row` meets its contract.
use mathlib.Core.Path.{◌≡◌}
use mathlib.Core.Bool.{false}
use Prim.Native.Nat.{ℕ, ◌≤◌, ◌<◌}
use lib.Dec.{eqb}
use lib.ListN.{length, get_or}
use Rattle.arena.specs.Sets.{some}
use Rattle.file.specs.Layout.{from}
use Rattle.game.specs.Limits.{max_states}
use Rattle.file.proofs.SoundRecords.moved_row.Given as goal

abbrev pub invariant-loop-k : goal.invariant-loop-k
invariant-loop-k l =
    (l.k ≤ l.self.records.moves)
    × (length l.has ≡ max_states)
    × ((s : ℕ) → s < max_states → get_or l.has s false ≡ some l.k (λ j. eqb (from l.self.records.file.now j) s))
