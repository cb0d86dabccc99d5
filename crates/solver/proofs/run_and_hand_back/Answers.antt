-- `run_and_hand_back` meets its contract.
use Rattle.runs.specs.Run.{lowest_first, run}
use Rattle.solver.proofs.Rowed.{finished, handed_back}
use Rattle.solver.proofs.run_and_hand_back.Goals as goal

pub hand_back-requires : goal.hand_back-requires
hand_back-requires c =
    ((run lowest_first c.args.allowance c.requires.0).last, finished (c.run_rounds-ran.ensures c.requires.0 c.requires.1))

pub returns-clause-back : goal.returns-clause-back
returns-clause-back c =
    λ g p.
    let final = c.run_rounds-ran.ensures g p in
    let back = c.hand_back.ensures.back (run lowest_first c.args.allowance g).last (finished final) in
    handed_back final _ back
