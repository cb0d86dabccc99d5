-- `plain_states` meets its contract.
use native.Mathlib.Omega.{arith}
use mathlib.Core.Path.{refl}
use Rattle.game.proofs.Rows.{walk, fill_none, fill_store, fill_done}
use Rattle.decoding.proofs.plain.plain_states.Goals as goal

pub loop-s-init : goal.loop-s-init
loop-s-init c = (search walk, fill_none _ _, fill_none _ _, fill_none _ _, refl, refl, refl)

pub loop-s-preserved : goal.loop-s-preserved
loop-s-preserved c = (
  search walk,
  fill_store _ _ _ (omega arith) _ c.loop-s.invariant.1 _ refl,
  fill_store _ _ _ (omega arith) _ c.loop-s.invariant.2 _ refl,
  fill_store _ _ _ (omega arith) _ c.loop-s.invariant.3 _ c.number_at.ensures,
  search walk,
  search walk,
  search walk,
)

pub returns : goal.returns
returns c =
    record {
      turn = fill_done _ _ _ _ _ c.loop-s.invariant.1 (omega arith) (omega arith);
      marks = fill_done _ _ _ _ _ c.loop-s.invariant.2 (omega arith) (omega arith);
      block = fill_done _ _ _ _ _ c.loop-s.invariant.3 (omega arith) (omega arith);
    }
