-- `moves_fault` meets its contract.
use mathlib.Core.Path.{◌≡◌}
use Prim.Native.Nat.{◌≤◌}
use Rattle.file.specs.Fault.{lowest}
use Rattle.file.specs.Refusals.{move_fault}
use Rattle.file.proofs.Records.moves_fault.Given as goal

abbrev pub invariant-loop-k : goal.invariant-loop-k
invariant-loop-k l = (l.k ≤ l.self.moves) × (lowest l.k (move_fault l.self.file.now) ≡ 0)
