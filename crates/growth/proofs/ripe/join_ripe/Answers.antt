-- `join_ripe` meets its contract: the ripe blocks with the numbers passed have joined.
use mathlib.Core.Path.{sym, ◌∙◌}
use native.Mathlib.Omega.{arith}
use Rattle.growth.specs.Net.{ripe_by}
use Rattle.growth.proofs.Ripening.{joined-none, joined_same, joined_then, below_none, below_more, below-same}
use Rattle.growth.proofs.ripe.join_ripe.Goals as goal
use Rattle.growth.proofs.ripe.join_ripe.Goals.{then-is_ripe, else-is_ripe}

pub loop-b-init : goal.loop-b-init
loop-b-init c = (omega arith, joined-none c.requires.4 c.requires.5 (λ s _. below_none (ripe_by c.args.whole c.args.members.now.size.now c.args.growth.now.hit.now) c.args.block.now s))

pub loop-b-preserved : goal.loop-b-preserved
loop-b-preserved c =
    let inv = c.loop-b.invariant in
    let ripe = c.is_ripe.ensures in
    let R = ripe_by c.args.whole c.args.members.now.size.now c.args.growth.now.hit.now in
    let block = c.args.block.now in
    elim c.if-is_ripe.branch [
      | then-is_ripe w ↦ rw (w.row-is, w.queue-is, w.tail-is) (
        omega (c.loop-b-test.true, arith),
        joined_then inv.1 (omega arith) w.join_block-tail.ensures (λ s _. below_more R block c.loop-b.b s (sym ripe ∙ w.if-is_ripe.true)),
      )
      | else-is_ripe w ↦ rw (w.row-is, w.queue-is, w.tail-is) (
        omega (c.loop-b-test.true, arith),
        joined_same inv.1 (λ s _. below-same R block c.loop-b.b s (sym ripe ∙ w.if-is_ripe.false)),
      )
    ]
