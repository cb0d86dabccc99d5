-- `ascends_at` meets its contract.
use native.Mathlib.Omega.{arith}
use Rattle.file.specs.Layout.{move_at}
use Rattle.file.proofs.Records.ascends_at.Goals as goal

pub pair_at-requires : goal.pair_at-requires
unfolding move_at
pair_at-requires c = omega (arith, c.move_at-before.ensures.0, c.requires)
