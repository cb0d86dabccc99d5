-- `rename_apart` meets its contract: the places passed have the new blocks, the others the old ones.
use mathlib.Core.Path.{refl}
use mathlib.Core.Bool.{cond, not, ◌&&◌, beq}
use native.Mathlib.Omega.{arith}
use lib.ListN.{length-set}
use lib.Dec.{eqb}
use Rattle.game.proofs.Rows.{fill_none, fill_done}
use Rattle.chains.proofs.Filling.{places, filled, change_more}
use Rattle.rounds.specs.Renamed.{enough}
use Rattle.rounds.proofs.split.rename_apart.Goals as goal

pub loop-s-init : goal.loop-s-init
loop-s-init c = (search places, fill_none _ _, refl)

pub loop-s-preserved : goal.loop-s-preserved
loop-s-preserved c =
    let inv = c.loop-s.invariant in
    let inside = enough c.args.need.now c.args.have.now in (
      search places,
      change_more (λ t v. cond (eqb v c.args.b && not (beq (inside t) (inside c.args.b))) c.args.name v) c.loop-s.s c.args.block.now (omega arith) inv.1 _ c.renamed.ensures,
      simp length-set inv.2,
    )

pub returns : goal.returns
returns c = filled _ _ c.args.block.now (fill_done _ _ _ _ _ c.loop-s.invariant.1 (omega arith) (omega arith)) (omega arith)
