-- `prey_no` meets its contract.
use mathlib.Core.Bool.{true, false}
use lib.Dec.{eqb}
use Rattle.rounds.proofs.PreyStates.{chosen}
use Rattle.rounds.proofs.prey.prey_no.Goals as goal

pub returns-then-objective-has_mark : goal.returns-then-objective-has_mark
returns-then-objective-has_mark c = chosen (eqb c.args.objective 1) _ _ true c.has_mark.ensures c.if-objective-has_mark.true

pub returns-else-objective-has_mark : goal.returns-else-objective-has_mark
returns-else-objective-has_mark c = chosen (eqb c.args.objective 1) _ _ false c.has_mark.ensures c.if-objective-has_mark.false
