-- `plain_moves` meets its contract.
use native.Mathlib.Omega.{arith}
use mathlib.Core.Path.{refl}
use Rattle.game.proofs.Rows.{walk, fill_none, fill_store, fill_done}
use Rattle.file.proofs.Sound.{move-inside}
use Rattle.decoding.proofs.plain.plain_moves.Goals as goal

pub loop-k-init : goal.loop-k-init
loop-k-init c = (search walk, fill_none _ _, fill_none _ _, refl, refl)

pub number_at-requires : goal.number_at-requires
number_at-requires c = omega (arith, move-inside _ _ c.requires.0 c.requires.2 _ c.requires.1 _ _ c.loop-k-test.true c.move_at-at.ensures.0)

pub number_at-requires-in-loop-k : goal.number_at-requires-in-loop-k
number_at-requires-in-loop-k c = omega (arith, move-inside _ _ c.requires.0 c.requires.2 _ c.requires.1 _ _ c.loop-k-test.true c.move_at-at.ensures.0)

pub loop-k-preserved : goal.loop-k-preserved
loop-k-preserved c = let inv = c.loop-k.invariant in let place = c.move_at-at.ensures.0 in (search walk, fill_store _ _ _ (omega arith) _ inv.1 _ (rw place at c.number_at.ensures), fill_store _ _ _ (omega arith) _ inv.2 _ (rw place at c.number_at-in-loop-k.ensures), search walk, search walk)

pub returns : goal.returns
returns c = let inv = c.loop-k.invariant in
    record {
      from = fill_done _ _ _ _ _ inv.1 (omega arith) (omega arith);
      to = fill_done _ _ _ _ _ inv.2 (omega arith) (omega arith);
    }
