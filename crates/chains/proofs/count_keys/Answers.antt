-- `count_keys` meets its contract: the keys passed are counted.
use mathlib.Core.Path.{refl}
use native.Mathlib.Omega.{arith}
use Prim.Native.Nat.{◌<◌}
use lib.ListN.{get_or, length-set}
use Rattle.std.proofs.lemmas.List.{get_or-take, length-take-le}
use Rattle.chains.proofs.Filling.{many_none, many_more, many_le}
use Rattle.chains.proofs.count_keys.Goals as goal

pub loop-c-init : goal.loop-c-init
loop-c-init c = (many_none _ c.requires.3, refl)

pub overflow_add-out : goal.overflow_add-out
overflow_add-out c =
    let l : c.loop-c.c-index < c.args.m = rw (length-take-le c.args.m c.args.key.now c.requires.2.long) at c.loop-c-test.true in
    rw (get_or-take c.args.m c.args.key.now c.loop-c.c-index 0 l) (
    let low = c.requires.2.below _ l in
    omega (arith, c.loop-c.invariant.0.cell _ low, many_le c.args.key.now c.loop-c.c-index (get_or c.args.key.now c.loop-c.c-index 0)))

pub loop-c-preserved : goal.loop-c-preserved
loop-c-preserved c =
    let l : c.loop-c.c-index < c.args.m = rw (length-take-le c.args.m c.args.key.now c.requires.2.long) at c.loop-c-test.true in
    rw (get_or-take c.args.m c.args.key.now c.loop-c.c-index 0 l) (many_more _ _ c.loop-c.invariant.0 (c.requires.2.below _ l), simp length-set c.loop-c.invariant.1)
