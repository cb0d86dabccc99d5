-- `may_have_way` meets its contract: a copy of the prey grows.
use mathlib.Core.Bool.{false}
use borrow.Author.Rules.{rules}
use Rattle.rows.proofs.Present.{lent, few-states, grown_anew, way_is}
use Rattle.rows.proofs.sets.may_have_way.Goals as goal

pub copy_row-requires : goal.copy_row-requires
copy_row-requires c = (let few = few-states c.requires.4 in let long = c.requires.4.prey_is.long in search rules)

pub grow_anew-requires : goal.grow_anew-requires
grow_anew-requires c = (let p = c.requires.4 in let few = few-states p in record { lent = (c.requires.0, c.requires.1, lent p); linked = (p.chains, (few, few, few), (few, few, few), c.copy_row.ensures.held.long) })

pub has_way-requires : goal.has_way-requires
has_way-requires c = (let p = c.requires.4 in let few = few-states p in (few, p.starts_is.long, c.grow_anew.ensures.gathered.1.counted.row-long))

pub returns : goal.returns
returns c = λ g side turn first p. way_is p (grown_anew p false c.copy_row.ensures.held (c.grow_anew.ensures.stamped g side (lent p))) c.has_way.ensures
