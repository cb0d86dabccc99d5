-- `head_fault` meets its contract.
use Rattle.file.proofs.Laws.{frame-whole}
use Rattle.file.proofs.head_fault.Goals as goal

pub head_fields-requires : goal.head_fields-requires
head_fields-requires c = frame-whole _ _ _ _ c.in_ok-frame_fault.ensures
