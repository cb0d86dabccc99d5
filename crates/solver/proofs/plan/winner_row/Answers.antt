-- `winner_row` meets its contract.
use native.Mathlib.Omega.{arith}
use Rattle.solver.proofs.Plans.{walk-safe, winner_chases, winner_flees}
use Rattle.solver.proofs.plan.winner_row.Goals as goal

pub advice_row-requires : goal.advice_row-requires
advice_row-requires c = let p = c.requires.planning.1 in (_, walk-safe p _ p.worked.lower_long)

pub returns-then-board-winner : goal.returns-then-board-winner
returns-then-board-winner c =
    λ g p s l. winner_chases p c.args.winner c.requires.known s l _ c.if-board-winner.true (c.advice_row.ensures.cell s (omega (arith, p.worked.ranged.few-states)))

pub advice_row-requires-else-board-winner : goal.advice_row-requires-else-board-winner
advice_row-requires-else-board-winner c = let p = c.requires.planning.1 in (_, walk-safe p _ p.worked.upper_long)

pub returns-else-board-winner : goal.returns-else-board-winner
returns-else-board-winner c =
    λ g p s l. winner_flees p c.args.winner c.requires.known s l _ c.if-board-winner.false (c.advice_row-else-board-winner.ensures.cell s (omega (arith, p.worked.ranged.few-states)))
