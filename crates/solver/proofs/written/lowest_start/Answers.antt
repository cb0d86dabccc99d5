-- `lowest_start` meets its contract.
use mathlib.Core.Path.{◌∙◌}
use native.Mathlib.Omega.{arith}
use Rattle.solver.proofs.Marks.{found-none, found_start}
use Rattle.solver.proofs.written.lowest_start.Goals as goal

pub returns-in_err-place : goal.returns-in_err-place
returns-in_err-place c = c.from_residual.ensures ∙ found-none c.args.n c.args.starts.now c.args.marks.now c.args.wanted c.requires.1 c.requires.2 c.in_err-place.ensures

pub overflow_cast-result : goal.overflow_cast-result
overflow_cast-result c =
    let place = found_start c.args.n c.args.starts.now c.args.marks.now c.args.wanted c.requires.1 c.requires.2 c.in_ok-place.place c.in_ok-place.ensures in
    omega (arith, place.0, c.requires.0)

pub returns : goal.returns
returns c = (found_start c.args.n c.args.starts.now c.args.marks.now c.args.wanted c.requires.1 c.requires.2 c.in_ok-place.place c.in_ok-place.ensures).1
