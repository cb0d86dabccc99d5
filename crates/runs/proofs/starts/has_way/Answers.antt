-- `has_way` meets its contract.
use Rattle.runs.proofs.Deciding.{way_found}
use Rattle.runs.proofs.starts.has_way.Goals as goal

pub returns : goal.returns
returns c = way_found c.args.objective c.args.n c.args.starts.now c.args.row.now c.requires.1 c.requires.2 c.some_decides.ensures
