-- `solve_exchanged_as_promised` meets its contract.
use mathlib.Core.Path.{sym, ap}
use native.Mathlib.Omega.{arith}
use Rattle.exchange.specs.Exchange.{Outcome}
use Rattle.demands.proofs.Calls.{written-length, written_fits, no_refusal, exchanged_solve_promise}
use Rattle.demands.proofs.solve_exchanged_as_promised.Goals as goal

pub solve_written-second-requires : goal.solve_written-second-requires
solve_written-second-requires c =
    let fits = written_fits c.args.file.now c.args.out.now c.in-Ok.count (sym (ap (λ (out : Outcome). out.answer) c.in-Ok.ensures)) in
    omega (arith, fits, c.exchange.auto.out)

pub returns-in-Ok : goal.returns-in-Ok
returns-in-Ok c =
    let whole = written-length c.args.file.now c.args.out.now c.in-Ok.count (sym (ap (λ (out : Outcome). out.answer) c.in-Ok.ensures)) in
    exchanged_solve_promise _ _ _ _ _ _ _ _ _ whole (ap (λ (out : Outcome). out.output) c.in-Ok.ensures) c.solve-first.ensures c.solve_written-second.ensures

pub returns-in-Err : goal.returns-in-Err
returns-in-Err c = λ taken long rows rows'. absurd (no_refusal c.args.file.now c.args.out.now _ (sym (ap (λ (out : Outcome). out.answer) c.in-Err.ensures)) taken long)
