-- `prey_row` meets its contract: the places passed tell the prey.
use Prim.Native.Nat.{◌<◌}
use mathlib.Core.Path.{ap, ◌∙◌}
use native.Mathlib.Omega.{arith}
use lib.ListN.{length, get_or}
use Rattle.arena.specs.Sets.{bit}
use Rattle.game.specs.Limits.{max_states}
use Rattle.game.specs.Rows.{blank, zeros}
use Rattle.game.specs.Game.{marked}
use Rattle.game.proofs.Rows.{fill_none, fill_store, zeros-length}
use Rattle.game.proofs.Small.{sweep}
use Rattle.rounds.proofs.PreyStates.{prey_is}
use Rattle.rounds.proofs.prey.prey_row.Goals as goal

pub loop-s-init : goal.loop-s-init
unfolding blank
loop-s-init c = (search sweep, fill_none _ (zeros max_states))

pub loop-s-preserved : goal.loop-s-preserved
loop-s-preserved c =
    let in_row : c.loop-s.s < length (zeros max_states) = omega (arith, zeros-length max_states, c.requires) in
    (search sweep, fill_store _ _ _ in_row _ c.loop-s.invariant.1 _ (c.prey_no.ensures ∙ ap bit (prey_is c.args.objective (λ t. marked 2 (get_or c.args.marks t 0)) c.loop-s.s)))
