-- `states_fault` meets its contract.
use mathlib.Core.Path.{◌≡◌}
use Prim.Native.Nat.{◌≤◌}
use Rattle.file.specs.Fault.{lowest}
use Rattle.file.specs.Refusals.{state_fault}
use Rattle.file.proofs.Records.states_fault.Given as goal

abbrev pub invariant-loop-s : goal.invariant-loop-s
invariant-loop-s l = (l.s ≤ l.self.states) × (lowest l.s (state_fault l.self.file.now) ≡ 0)
