-- `run_passes` meets its contract: before each pass the row holds the passes so far.
use Rattle.growth.proofs.Passing.{pass_work, turn_on, pass_next, pass_last, pass_grown, pass_within}
use Rattle.growth.proofs.Same.{same_growth, still-growth}
use Rattle.growth.proofs.passes.run_passes.Goals as goal

pub overflow_add-number : goal.overflow_add-number
overflow_add-number c = (pass_within c.requires.0 c.loop-end.invariant.0.1).number_fits

pub overflow_cast-number : goal.overflow_cast-number
overflow_cast-number c = (pass_within c.requires.0 c.loop-end.invariant.0.1).number_short

pub walk-requires : goal.walk-requires
walk-requires c = (let was = c.loop-q.invariant.0 in let k = pass_within c.requires.0 was.1 in (c.requires.0, c.requires.1, c.requires.2, k.in_queue c.loop-q-test.true, k.number_some, pass_work c.requires.0 was.0 was.1))

pub loop-end-init : goal.loop-end-init
loop-end-init c = (c.requires.3, (λ f was. was), same_growth c.args.growth.now)

pub loop-q-preserved : goal.loop-q-preserved
loop-q-preserved c =
    let inv = c.loop-q.invariant in
    let done = c.walk.ensures.walked in
    let turned = turn_on c.requires.0 inv.0 inv.1 c.loop-q-test.true done.0 done.1 done.2 in
    (turned.0, turned.1, still-growth c.args.growth.now c.loop-q.growth c.walk.new.growth inv.2 c.walk.ensures.same)

pub returns-then-end-growth : goal.returns-then-end-growth
returns-then-end-growth c =
    let inv = c.loop-q.invariant in
    let over = c.loop-q-test.false in
    let e = (pass_within c.requires.0 inv.0.1).all_in c.if-end-growth.true in
    record { passed = (pass_grown c.requires.0 inv.0.0 inv.0.1 over e, λ f was. pass_last c.requires.0 f (inv.1 f was) over e); same = inv.2 }

pub loop-end-smaller : goal.loop-end-smaller
loop-end-smaller c = (pass_within c.requires.0 c.loop-q.invariant.0.1).pass_less c.if-end-growth.false

pub loop-end-preserved : goal.loop-end-preserved
loop-end-preserved c =
    let inv = c.loop-q.invariant in
    let over = c.loop-q-test.false in
    let more = c.if-end-growth.false in
    ((inv.0.0, pass_next c.requires.0 inv.0.0 inv.0.1 over more), (λ f was. pass_next c.requires.0 f (inv.1 f was) over more), inv.2)
