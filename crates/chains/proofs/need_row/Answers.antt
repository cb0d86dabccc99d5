-- `need_row` meets its contract: the places passed say what is needed, the others still how many moves there are.
use mathlib.Core.Path.{refl}
use mathlib.Core.Bool.{cond}
use native.Mathlib.Omega.{arith}
use lib.ListN.{get_or, length-set}
use lib.Dec.{eqb}
use Rattle.game.proofs.Rows.{fill_none, fill_done}
use Rattle.chains.proofs.Filling.{places, filled, change_more}
use Rattle.chains.proofs.need_row.Goals as goal

pub loop-s-init : goal.loop-s-init
loop-s-init c = (search places, fill_none _ _, refl)

pub loop-s-preserved : goal.loop-s-preserved
loop-s-preserved c =
    let inv = c.loop-s.invariant in (
      search places,
      change_more (λ t v. cond (eqb (get_or c.args.turn.now t 0) c.args.side) 1 v) c.loop-s.s c.args.need.now (omega arith) inv.1 _ c.needed.ensures,
      simp length-set inv.2,
    )

pub returns : goal.returns
returns c = filled _ _ c.args.need.now (fill_done _ _ _ _ _ c.loop-s.invariant.1 (omega arith) (omega arith)) (omega arith)
