-- `relink` meets its contract: the members passed are linked.
use mathlib.Core.Path.{◌≡◌, refl, ap, ◌∙◌}
use native.Mathlib.Omega.{arith}
use lib.ListN.{length, length-set}
use Rattle.chains.proofs.Parting.{chain_none, chain_member, chain_other, chain_few}
use Rattle.chains.proofs.relink.Goals as goal
use Rattle.chains.proofs.relink.Goals.{then-block-s, else-block-s}

pub overflow_cast-name : goal.overflow_cast-name
overflow_cast-name c = omega (arith, c.requires.0, c.requires.1)

pub loop-s-init : goal.loop-s-init
loop-s-init c = (omega (arith, c.requires.1), chain_none c.args.block.now c.args.b c.args.before.now c.requires.3 c.requires.4, refl)

pub offset_bounds-block-s : goal.offset_bounds-block-s
offset_bounds-block-s c = omega (arith, c.requires.0, c.loop-s-test.true)

pub bounds-block-s : goal.bounds-block-s
bounds-block-s c = omega (arith, c.requires.2, c.loop-s-test.true)

pub offset_bounds-before-s : goal.offset_bounds-before-s
offset_bounds-before-s c = omega (arith, c.requires.0, c.loop-s-test.true)

pub bounds-before-s : goal.bounds-before-s
bounds-before-s c = omega (arith, c.requires.3, c.loop-s.invariant.2, c.loop-s-test.true)

pub overflow_add-last : goal.overflow_add-last
overflow_add-last c = omega (arith, c.requires.0, c.loop-s-test.true)

pub overflow_cast-last : goal.overflow_cast-last
overflow_cast-last c = omega (arith, c.requires.0, c.loop-s-test.true)

pub overflow_add-size : goal.overflow_add-size
overflow_add-size c = omega (arith, c.requires.0, c.loop-s-test.true, chain_few c.args.block.now c.args.b c.args.before.now c.loop-s.invariant.1)

pub loop-s-preserved : goal.loop-s-preserved
loop-s-preserved c =
    let inv = c.loop-s.invariant in
    let left = c.loop-s-test.true in
    elim c.if-block-s.branch [
      | then-block-s w ↦ (
        omega (arith, left),
        chain_member c.args.block.now c.args.b c.args.before.now inv.1 left w.if-block-s.true w.before-is w.last-is w.size-is,
        ap length w.before-is ∙ simp length-set inv.2,
      )
      | else-block-s w ↦ (
        omega (arith, left),
        chain_other c.args.block.now c.args.b c.args.before.now inv.1 w.if-block-s.false w.before-is w.last-is w.size-is,
        ap length w.before-is ∙ inv.2,
      )
    ]

pub shape_of-before : goal.shape_of-before
shape_of-before c = c.loop-s.invariant.2

pub returns : goal.returns
returns c =
    let inv = c.loop-s.invariant in
    let e : c.loop-s.s ≡ c.args.n = omega (arith, inv.0, c.loop-s-test.false) in
    let done = rw e at inv.1 in
    (done.last_is, done.size_is, done.before_is)
