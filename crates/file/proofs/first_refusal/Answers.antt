-- `first_refusal` meets its contract.
use native.Mathlib.Omega.{arith}
use mathlib.Core.Path.{sym, ◌∙◌}
use Rattle.file.proofs.Sound.{head_long, counted, sound}
use Rattle.file.proofs.first_refusal.Goals as goal

pub number_at-requires : goal.number_at-requires
number_at-requires c = omega (arith, head_long _ c.in_ok-head_fault.ensures)

pub number_at-requires-2 : goal.number_at-requires-2
number_at-requires-2 c = omega (arith, head_long _ c.in_ok-head_fault.ensures)

pub invariant_of-records : goal.invariant_of-records
invariant_of-records c = record { counted = counted _ c.in_ok-head_fault.ensures _ _ (c.from.ensures ∙ c.number_at.ensures) (c.from-2.ensures ∙ c.number_at-2.ensures) }

pub invariant_of-whole_fault : goal.invariant_of-whole_fault
invariant_of-whole_fault c =
    record {
      sound = sound _ (sym c.in_ok-head_fault.ensures)
          (rw (c.from.ensures ∙ c.number_at.ensures) at (sym c.in_ok-states_fault.ensures))
          (rw (c.from-2.ensures ∙ c.number_at-2.ensures) at (sym c.in_ok-moves_fault.ensures));
    }
