-- `upper_row` meets its contract: copies of the rows of what is surely brought about grow on.
use borrow.Author.Rules.{rules}
use Rattle.rows.proofs.Present.{lent, few-states, upper-grown}
use Rattle.rows.proofs.Copies.{counted_copy}
use Rattle.rows.proofs.sets.upper_row.Goals as goal

pub copy_row-requires : goal.copy_row-requires
copy_row-requires c = (let few = few-states c.requires.present in let long = c.requires.lowered.grown.counted.counts.long in search rules)

pub copy_row-requires-2 : goal.copy_row-requires-2
copy_row-requires-2 c = (let few = few-states c.requires.present in let long = c.requires.lowered.grown.counted.row-long in search rules)

pub copy_row-requires-3 : goal.copy_row-requires-3
copy_row-requires-3 c = (let few = few-states c.requires.present in let long = c.requires.lowered.grown.counted.listed.room in search rules)

pub grow-requires : goal.grow-requires
grow-requires c =
    (let u = c.requires in
    let few = few-states u.present in
    let copied = counted_copy _ _ _ _ u.lowered.grown.counted c.copy_row.ensures.held c.copy_row-2.ensures.held c.copy_row-3.ensures.held in
    record { lent = (u.game, u.side, lent u.present); linked = (u.present.chains, u.lowered.gathered, few, copied) })

pub returns : goal.returns
returns c = λ u. upper-grown u.present u.lowered.lower_in c.copy_row-2.ensures.held (c.grow.ensures.stamped u.game u.side (lent u.present))
