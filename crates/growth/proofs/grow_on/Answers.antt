-- `grow_on` meets its contract.
use mathlib.Core.Bool.{true}
use Rattle.growth.specs.Stamp.{pass_at}
use Rattle.growth.proofs.Passing.{pass_first}
use Rattle.growth.proofs.Says.{sound, row_says}
use Rattle.growth.proofs.grow_on.Goals as goal

pub run_passes-requires : goal.run_passes-requires
run_passes-requires c =
    let linked = c.requires.linked in
    (sound c.requires.lent.2 linked.1 true, linked.0, linked.1.chains, (pass_at c.args.row.now, pass_first _ linked.3.counted linked.3.hit_is linked.3.due c.join_block-growth.ensures))

pub returns-clause-stamped : goal.returns-clause-stamped
returns-clause-stamped c = λ g side lent.
    let linked = c.requires.linked in
    row_says lent linked.1 true (pass_at c.args.row.now) (c.run_passes.ensures.passed.1 (pass_at c.args.row.now) (pass_first _ linked.3.counted linked.3.hit_is linked.3.due c.join_block-growth.ensures))
