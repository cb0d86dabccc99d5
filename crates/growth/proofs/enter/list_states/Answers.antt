-- `list_states` meets its contract: the queue lists the states passed.
use Prim.Native.Nat.{◌<◌}
use mathlib.Core.Path.{◌≡◌, refl, ap, ◌∙◌}
use mathlib.Core.Bool.{not}
use native.Mathlib.Omega.{arith}
use borrow.Author.Tests.{eq-eqb, ne_eqb}
use lib.ListN.{length, length-set}
use Rattle.chains.proofs.Filling.{places}
use Rattle.growth.proofs.Listing.{listed-none, listed_more, listed_same}
use Rattle.growth.proofs.enter.list_states.Goals as goal
use Rattle.growth.proofs.enter.list_states.Goals.{then-row-s-ne0, else-row-s-ne0}

pub loop-s-init : goal.loop-s-init
loop-s-init c = (search places, search places, listed-none _ _, refl)

pub loop-s-preserved : goal.loop-s-preserved
loop-s-preserved c =
    let inv = c.loop-s.invariant in
    let room : c.loop-s.s < length c.loop-s.queue = omega arith in
    elim c.if-row-s-ne0.branch [
      | then-row-s-ne0 w ↦ (
        omega arith,
        omega arith,
        listed_more inv.2 room (ap not (ne_eqb _ _ w.if-row-s-ne0.true)) w.queue-is w.tail-is,
        ap length w.queue-is ∙ simp length-set inv.3,
      )
      | else-row-s-ne0 w ↦ (
        omega arith,
        omega arith,
        listed_same inv.2 room (ap not (eq-eqb _ _ w.if-row-s-ne0.false)) w.queue-is w.tail-is,
        ap length w.queue-is ∙ inv.3,
      )
    ]

pub returns : goal.returns
returns c = let e : c.loop-s.s ≡ c.args.n = omega arith in rw e at c.loop-s.invariant.2
