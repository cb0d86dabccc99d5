-- `lowest_apart` meets its contract: no state passed is such a member.
use mathlib.Core.Path.{refl}
use borrow.Author.Tests.{eq-eqb, ne_eqb}
use Rattle.arena.proofs.Loops.{some_still}
use Rattle.arena.proofs.Least.{least_found, least-done}
use Rattle.game.proofs.Small.{sweep}
use Rattle.rounds.proofs.split.lowest_apart.Goals as goal
use Rattle.rounds.proofs.split.lowest_apart.Goals.{else-block-s-via-then-block-s+else-have-s, else-block-s-via-else-block-s}

pub returns-then-have-s : goal.returns-then-have-s
returns-then-have-s c = least_found _ _ _ c.loop-s-test.true c.loop-s.invariant.1 (rw (eq-eqb _ _ c.if-block-s.true) c.if-have-s.true)

pub loop-s-preserved : goal.loop-s-preserved
loop-s-preserved c = (
  search sweep,
  some_still _ _ _ c.loop-s.invariant.1 refl
      (elim c.else-block-s.branch [
        | else-block-s-via-then-block-s+else-have-s w ↦ rw (eq-eqb _ _ w.if-block-s.true) w.if-have-s.false
        | else-block-s-via-else-block-s w ↦ rw (ne_eqb _ _ w.if-block-s.false) refl
      ]),
)

pub loop-s-init : goal.loop-s-init
loop-s-init c = search sweep

pub returns : goal.returns
returns c = search (least-done, sweep)
