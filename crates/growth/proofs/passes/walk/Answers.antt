-- `walk` meets its contract: the moves from the present one on are counted.
use mathlib.Core.Path.{refl, sym, ◌∙◌}
use Rattle.growth.proofs.Walking.{beginning, walk_begins, turning, step_quiet, step_hit, step_join, walk_ends}
use Rattle.growth.proofs.passes.walk.Goals as goal
use Rattle.growth.proofs.passes.walk.Goals.{then-more-moves+then-met-enough, then-more-moves+else-met-enough, else-more-moves}

pub offset_bounds-queue-q : goal.offset_bounds-queue-q
offset_bounds-queue-q c = (beginning c.requires.0 c.requires.1 c.args.q c.requires.3 c.requires.5).place_offset

pub bounds-queue-q : goal.bounds-queue-q
bounds-queue-q c = (beginning c.requires.0 c.requires.1 c.args.q c.requires.3 c.requires.5).place

pub loop-at-init : goal.loop-at-init
loop-at-init c = turning c.requires.0 c.requires.1 (walk_begins c.requires.0 c.requires.1 c.args.q c.requires.3 c.requires.5)

pub loop-at-preserved : goal.loop-at-preserved
loop-at-preserved c =
    let inv = c.loop-at.invariant in
    let left = c.loop-at-test.true in
    elim c.if-more-moves.branch [
      | then-more-moves+then-met-enough w ↦ rw (w.hit-is, w.row-is, w.queue-is, w.tail-is)
          (turning c.requires.0 c.requires.1 (step_join c.requires.0 c.requires.1 inv.0 left refl refl w.if-more-moves.true c.requires.4 (w.if-met-enough.true ∙ w.enough.ensures) w.join_block-tail.ensures))
      | then-more-moves+else-met-enough w ↦ rw (w.hit-is, w.row-is, w.queue-is, w.tail-is)
          (turning c.requires.0 c.requires.1 (step_hit c.requires.0 c.requires.1 inv.0 left refl refl w.if-more-moves.true refl refl refl (λ z. w.if-met-enough.false (z ∙ sym w.enough.ensures))))
      | else-more-moves w ↦ rw (w.hit-is, w.row-is, w.queue-is, w.tail-is)
          (turning c.requires.0 c.requires.1 (step_quiet c.requires.0 c.requires.1 inv.0 left refl refl refl refl refl w.if-more-moves.false))
    ]

pub returns-clause-walked : goal.returns-clause-walked
returns-clause-walked c = (walk_ends c.requires.0 c.requires.1 c.loop-at.invariant.0 refl c.loop-at-test.false, c.loop-at.invariant.0.more, c.loop-at.invariant.0.alike)
