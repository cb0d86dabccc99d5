-- `plan_row` meets its contract.
use mathlib.Core.Path.{ap, ◌∙◌}
use native.Mathlib.Omega.{arith}
use Rattle.game.specs.Limits.{max_states}
use Rattle.game.specs.Rows.{blank}
use Rattle.game.proofs.Rows.{blank_at}
use Rattle.arena.specs.Plan.{no_move}
use Rattle.arena.specs.Arena.{one, two}
use Rattle.runs.specs.Run.{YES, NO, OPEN}
use Rattle.solver.specs.Rules.{rule}
use Rattle.solver.proofs.Rules.{winner-rule}
use Rattle.solver.proofs.Plans.{word_of, planned_by}
use Rattle.solver.proofs.plan.plan_row.Goals as goal

pub returns-in-Yes : goal.returns-in-Yes
returns-in-Yes c = λ g p said s l. c.winner_row.ensures g p s l ∙ winner-rule g one s ∙ planned_by g s _ said YES (ap word_of c.in-Yes.is)

pub returns-in-No : goal.returns-in-No
returns-in-No c = λ g p said s l. c.winner_row-in-No.ensures g p s l ∙ winner-rule g two s ∙ planned_by g s _ said NO (ap word_of c.in-No.is)

pub returns-in-Open : goal.returns-in-Open
unfolding blank rule
returns-in-Open c = λ g p said s l. blank_at max_states no_move s (omega (arith, p.worked.ranged.few-states)) ∙ planned_by g s _ said OPEN (ap word_of c.in-Open.is)
