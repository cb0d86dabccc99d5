-- `join_block` meets its contract: the members from the present one on have joined.
use mathlib.Core.Path.{refl}
use native.Mathlib.Omega.{arith}
use lib.ListN.{length-set}
use Rattle.growth.proofs.Queue.{join_begins, join_skip, join_take, join_less, chain_room}
use Rattle.growth.proofs.enter.join_block.Goals as goal
use Rattle.growth.proofs.enter.join_block.Goals.{then-row-s-eq0, else-row-s-eq0}

pub loop-at-init : goal.loop-at-init
loop-at-init c = (join_begins c.requires.3 c.requires.1 c.requires.4 c.requires.5, refl, refl)

pub offset_bounds-queue-end : goal.offset_bounds-queue-end
offset_bounds-queue-end c = let r = chain_room c.requires.0 c.loop-at.invariant.0 c.loop-at-test.true c.if-row-s-eq0.true in omega arith

pub bounds-queue-end : goal.bounds-queue-end
bounds-queue-end c = (chain_room c.requires.0 c.loop-at.invariant.0 c.loop-at-test.true c.if-row-s-eq0.true).in_queue

pub overflow_add-end : goal.overflow_add-end
overflow_add-end c = let r = chain_room c.requires.0 c.loop-at.invariant.0 c.loop-at-test.true c.if-row-s-eq0.true in omega arith

pub loop-at-smaller : goal.loop-at-smaller
loop-at-smaller c = join_less c.requires.3 c.loop-at.invariant.0 c.loop-at-test.true

pub loop-at-preserved : goal.loop-at-preserved
loop-at-preserved c =
    let inv = c.loop-at.invariant in
    let left = c.loop-at-test.true in
    let linked = c.requires.3 in
    elim c.if-row-s-eq0.branch [
      | then-row-s-eq0 w ↦ rw (w.row-is, w.queue-is, w.end-is) (join_take linked inv.0 left c.requires.2 refl refl refl w.if-row-s-eq0.true, simp length-set inv.1, simp length-set inv.2)
      | else-row-s-eq0 w ↦ rw (w.row-is, w.queue-is, w.end-is) (join_skip linked inv.0 left refl refl refl w.if-row-s-eq0.false, inv.1, inv.2)
    ]
