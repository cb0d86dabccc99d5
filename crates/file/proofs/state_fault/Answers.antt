-- `state_fault` meets its contract.
use native.Mathlib.Omega.{arith}
use Rattle.file.proofs.Laws.{frame-whole}
use Rattle.file.proofs.state_fault.Goals as goal

pub state_fields-requires : goal.state_fields-requires
state_fields-requires c = (c.requires, omega (arith, frame-whole _ _ _ _ c.in_ok-frame_fault.ensures))
