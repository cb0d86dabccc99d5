-- `last_round` meets its contract.
use mathlib.Core.Path.{refl}
use native.Mathlib.Omega.{arith}
use Rattle.runs.proofs.First.{settled-run}
use Rattle.play.proofs.Ending.{retracing}
use Rattle.play.proofs.last_round.Goals as goal

pub first_lost-requires : goal.first_lost-requires
first_lost-requires c = retracing c.requires c.if-stop.true

pub returns-then-stop : goal.returns-then-stop
returns-then-stop c =
    let done = c.first_lost.ensures in
    ((λ e. let d = done.0 (retracing e c.if-stop.true) in (settled-run e.game e.present.accepted _ d.0 (omega arith) (omega (arith, e.within, done.1)), d.1)), done.1, done.2)

pub returns : goal.returns
returns c = ((λ e. (e.ended c.if-stop.false, e.blocks_are)), omega arith, λ _. refl)
