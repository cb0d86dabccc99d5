-- `split_round` meets its contract.
use native.Mathlib.Omega.{arith}
use Rattle.runs.specs.Run.{lowest_first, split_game}
use Rattle.rows.proofs.Present.{lent, few-states, names}
use Rattle.rows.proofs.Splitting.{hits_have, both_parts, inner_small, inner-due, next-blocks, next-present, next-lowered}
use Rattle.rows.proofs.splits.split_round.Goals as goal

pub part_block-name-requires : goal.part_block-name-requires
part_block-name-requires c =
    (let u = c.requires.0 in
    let next = c.requires.1 in
    let p = u.present in
    (few-states p, next.state, p.need_is.long, u.lowered.grown.counted.counts.long, p.block_is.long, names p, next.name, u.lowered.gathered, hits_have p u.lowered, both_parts p u.lowered next))

pub offset_bounds-growth-b : goal.offset_bounds-growth-b
offset_bounds-growth-b c = omega (arith, few-states c.requires.0.present, c.requires.1.state, c.requires.0.lowered.grown.counted.counts.long, c.requires.0.present.need_is.long)

pub bounds-growth-b : goal.bounds-growth-b
bounds-growth-b c = omega (arith, few-states c.requires.0.present, c.requires.1.state, c.requires.0.lowered.grown.counted.counts.long, c.requires.0.present.need_is.long)

pub offset_bounds-moves-b : goal.offset_bounds-moves-b
offset_bounds-moves-b c = omega (arith, few-states c.requires.0.present, c.requires.1.state, c.requires.0.lowered.grown.counted.counts.long, c.requires.0.present.need_is.long)

pub bounds-moves-b : goal.bounds-moves-b
bounds-moves-b c = omega (arith, few-states c.requires.0.present, c.requires.1.state, c.requires.0.lowered.grown.counted.counts.long, c.requires.0.present.need_is.long)

pub grow_on-requires : goal.grow_on-requires
grow_on-requires c =
    (let u = c.requires.0 in
    let next = c.requires.1 in
    let p = u.present in
    let q = u.lowered in
    let part = c.part_block-name.ensures in
    let chosen = c.inner_part-inner.ensures in
    let here = next-present p q next part.named part.parted part.gathered.0 part.gathered.1 in
    record { lent = (split_game lowest_first u.game, u.side, lent here); linked = (p.chains, rw (c.shared.ensures.last, c.shared.ensures.before, c.shared.ensures.size) part.gathered.0, inner_small p q next part.named part.parted part.gathered.0 part.gathered.1 chosen, rw c.shared.ensures.size (inner-due p q next part.named part.parted part.gathered.0 part.gathered.1 chosen)) })

pub returns-clause-named : goal.returns-clause-named
returns-clause-named c = c.part_block-name.ensures.named

pub returns-clause-split : goal.returns-clause-split
returns-clause-split c =
    λ u next.
    let part = c.part_block-name.ensures in
    let grown = c.grow_on.ensures in
    (next-blocks u.present u.lowered next part.named part.parted part.gathered.0 part.gathered.1, next-lowered u.present u.lowered next part.named part.parted part.gathered.0 part.gathered.1 (rw c.shared.ensures.size at grown.grown) (grown.stamped (split_game lowest_first u.game) u.side (lent (next-present u.present u.lowered next part.named part.parted part.gathered.0 part.gathered.1))))
