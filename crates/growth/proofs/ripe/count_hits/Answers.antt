-- `count_hits` meets its contract: the members passed are counted.
use mathlib.Core.Path.{refl}
use native.Mathlib.Omega.{arith}
use lib.ListN.{get_or, length-set}
use Rattle.growth.proofs.Hits.{hits-none, hits_more, hits-same, hits-le}
use Rattle.growth.proofs.ripe.count_hits.Goals as goal
use Rattle.growth.proofs.ripe.count_hits.Goals.{then-have-s, else-have-s}

pub loop-s-init : goal.loop-s-init
loop-s-init c = (omega arith, hits-none _ _ _ c.requires.4, refl)

pub overflow_add-hit : goal.overflow_add-hit
overflow_add-hit c =
    let low = c.requires.1.below _ c.loop-s-test.true in
    omega (arith, c.loop-s.invariant.1.cell _ low, hits-le c.args.block.now c.args.need.now (λ t. get_or c.args.have.now t 0) c.loop-s.s (get_or c.args.block.now c.loop-s.s 0))

pub loop-s-preserved : goal.loop-s-preserved
loop-s-preserved c =
    let inv = c.loop-s.invariant in
    let low = c.requires.1.below _ c.loop-s-test.true in
    elim c.if-have-s.branch [
      | then-have-s w ↦ rw w.hit-is (omega arith, hits_more _ _ _ _ inv.1 low w.if-have-s.true refl, simp length-set inv.2)
      | else-have-s w ↦ rw w.hit-is (omega arith, hits-same _ _ _ _ inv.1 w.if-have-s.false refl, inv.2)
    ]
