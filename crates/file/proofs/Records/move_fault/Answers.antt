-- `move_fault` meets its contract.
use native.Mathlib.Omega.{arith}
use Rattle.file.proofs.Laws.{frame-whole}
use Rattle.file.proofs.Records.move_fault.Goals as goal

pub move_fields-requires : goal.move_fields-requires
move_fields-requires c = (c.move_at-at.ensures.0, c.requires, omega (arith, frame-whole _ _ _ _ c.in_ok-frame_fault.ensures))
