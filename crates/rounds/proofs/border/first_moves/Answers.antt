-- `first_moves` meets its contract: the moves passed have told where the next state's begin.
use mathlib.Core.Path.{◌≡◌, refl}
use native.Mathlib.Numerals.{add-one}
use native.Mathlib.Omega.{arith}
use lib.ListN.{length-set}
use Rattle.rounds.proofs.FirstMoves.{first-none, first_more, nexts}
use Rattle.rounds.proofs.border.first_moves.Goals as goal

pub loop-k-init : goal.loop-k-init
loop-k-init c = (search nexts, first-none _ (rw add-one at c.clear.ensures), refl)

pub loop-k-preserved : goal.loop-k-preserved
loop-k-preserved c =
    let inv = c.loop-k.invariant in
    (search nexts, first_more _ _ inv.1 (c.requires.2.below _ c.loop-k-test.true), simp length-set inv.2)

pub returns : goal.returns
returns c =
    let e : c.loop-k.k ≡ c.args.m = omega arith in
    rw e at c.loop-k.invariant.1
