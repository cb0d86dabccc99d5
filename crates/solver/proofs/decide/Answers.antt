-- `decide` meets its contract.
use Rattle.solver.proofs.Marks.{decided_no, decided_open, decided_yes}
use Rattle.solver.proofs.decide.Goals as goal

pub returns-then-is_none : goal.returns-then-is_none
returns-then-is_none c = decided_no _ c.args.starts.now c.args.marks.now (rw c.lowest_start.ensures at c.if-is_none.ensures)

pub returns-in-Some : goal.returns-in-Some
returns-in-Some c = decided_yes _ c.args.starts.now c.args.marks.now (rw c.lowest_start.ensures at c.if-is_none.ensures) _ c.in-Some.ensures

pub returns-in-None : goal.returns-in-None
returns-in-None c = decided_open _ c.args.starts.now c.args.marks.now (rw c.lowest_start.ensures at c.if-is_none.ensures) c.in-None.ensures
