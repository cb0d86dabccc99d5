-- `advice_row` meets its contract.
use native.Mathlib.Omega.{arith}
use mathlib.Core.Path.{refl, sym, ◌∙◌}
use Prim.Native.Nat.{◌<◌}
use lib.ListN.{get_or}
use Rattle.game.specs.Limits.{max_states}
use Rattle.game.specs.Rows.{blank}
use Rattle.game.proofs.Rows.{cells_store, blank-length, blank_at}
use Rattle.chains.proofs.Filling.{places}
use Rattle.arena.specs.Plan.{no_move}
use Rattle.solver.proofs.Advice.{good_none, good_more, good_same}
use Rattle.solver.proofs.plan.advice_row.Goals as goal

pub loop-k-init : goal.loop-k-init
unfolding blank
loop-k-init c = (search places, record { long = blank-length max_states no_move; cell = λ s l. blank_at max_states no_move s l ∙ sym (good_none _ _ _ _ _ _ s) })

pub loop-k-preserved : goal.loop-k-preserved
loop-k-preserved c =
    let walk = c.requires.1 in
    let from = c.args.board.now.moves.from.now in
    let k = c.loop-k.k in
    let place : get_or from k 0 < max_states = omega (arith, walk.few-states, walk.froms.below k c.loop-k-test.true) in
    rw c.from-f.ensures (
      search places,
      cells_store _ _ c.loop-k.invariant.1 refl place
          (good_more c.args.winner c.args.chase _ (λ j. get_or from j 0) _ _ k _ _ _ (c.loop-k.invariant.1.cell _ place) (rw (c.from-f.ensures, c.from-t.ensures) at c.is_good.ensures) (rw c.from-f.ensures at c.better.ensures))
          (good_same c.args.winner c.args.chase _ (λ j. get_or from j 0) _ _ k),
    )
