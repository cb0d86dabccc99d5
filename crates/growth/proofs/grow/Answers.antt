-- `grow` meets its contract.
use Rattle.growth.specs.Stamp.{pass_at}
use Rattle.growth.proofs.Starting.{starts}
use Rattle.growth.proofs.Says.{sound, row_says}
use Rattle.growth.proofs.grow.Goals as goal

pub run_passes-requires : goal.run_passes-requires
run_passes-requires c =
    let linked = c.requires.linked in
    let s = sound c.requires.lent.2 linked.1 c.args.whole in
    (s, linked.0, linked.1.chains, (pass_at c.args.row.now, starts s linked.3 c.count_hits.ensures c.join_ripe.ensures.joined))

pub returns-clause-stamped : goal.returns-clause-stamped
returns-clause-stamped c = λ g side lent.
    let linked = c.requires.linked in
    let s = sound lent linked.1 c.args.whole in
    row_says lent linked.1 c.args.whole (pass_at c.args.row.now) (c.run_passes.ensures.passed.1 (pass_at c.args.row.now) (starts s linked.3 c.count_hits.ensures c.join_ripe.ensures.joined))
