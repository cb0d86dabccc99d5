-- `link` meets its contract: the places passed are linked.
use mathlib.Core.Path.{◌≡◌, refl}
use native.Mathlib.Omega.{arith}
use lib.ListN.{length-set}
use Rattle.chains.proofs.Filling.{places, holds_none, link_none, link_more, link_before}
use Rattle.chains.proofs.link.Goals as goal

pub loop-k-init : goal.loop-k-init
loop-k-init c = (search places, link_none c.args.key.now c.requires.4, holds_none _ _, refl, refl)

pub loop-k-preserved : goal.loop-k-preserved
loop-k-preserved c =
    let inv = c.loop-k.invariant in
    let low = c.requires.2.below _ c.loop-k-test.true in (
      omega arith,
      link_more c.args.key.now c.loop-k.k inv.1 low,
      link_before c.args.key.now c.loop-k.k inv.1 low inv.2 (omega arith),
      simp length-set inv.3,
      simp length-set inv.4,
    )

pub returns : goal.returns
returns c =
    let e : c.loop-k.k ≡ c.args.m = omega arith in
    record { lasts = rw e at c.loop-k.invariant.1; befores = rw e at c.loop-k.invariant.2 }
