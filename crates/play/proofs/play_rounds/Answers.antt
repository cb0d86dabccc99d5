-- `play_rounds` meets its contract: before each round the rows are those of the rounds played.
use Prim.Native.Nat.{◌+◌, ◌≤◌, zero-le}
use native.Mathlib.Nat.{le_refl}
use mathlib.Core.Path.{refl, sym, ◌∙◌}
use mathlib.Core.Bool.{not}
use borrow.Author.Tests.{not-false}
use borrow.Author.Rules.{rules}
use Rattle.chains.proofs.Same.{same_row, still-row, same_members, still-members}
use Rattle.growth.proofs.Same.{same_growth, still-growth}
use Rattle.runs.specs.Run.{lowest_first, round}
use Rattle.runs.specs.First.{CatchableBefore}
use Rattle.rows.specs.RoundRows.{Next}
use Rattle.runs.proofs.First.{catchable-more}
use Rattle.rows.proofs.Present.{few-states}
use Rattle.rows.proofs.Bordering.{searched}
use Rattle.play.proofs.Playing.{play-first, underway, twice_fits, due_fits, more_fits, in_log, clear_on, less_left, allowed-next, next_fits, some_made, stop_caught, uncaught_now, open_now, stop_last, next_here, play-next, neither}
use Rattle.play.proofs.play_rounds.Goals as goal
use Rattle.play.proofs.play_rounds.Goals.{then-is_due+else-is_last, else-is_due}

pub rounds-init : goal.rounds-init
rounds-init c = ((λ v. (play-first _ _ v, λ _. refl)), zero-le, refl, refl, same_members c.args.members.now, same_growth c.args.growth.now, (same_row c.args.log.now.parents, same_row c.args.log.now.names))

pub has_way-requires : goal.has_way-requires
has_way-requires c = (let y = (c.rounds.invariant.0 c.requires.begun).0 in (few-states y.present, y.present.starts_is.long, y.lowered.grown.counted.row-long))

pub returns-then-has_way-clause-played : goal.returns-then-has_way-clause-played
returns-then-has_way-clause-played c = λ v. let y = c.rounds.invariant.0 v in (y.0, stop_caught v.present.accepted y.0 c.rounds.invariant.1 y.1 c.has_way.ensures c.if-has_way.true)

pub searched-found-requires : goal.searched-found-requires
searched-found-requires c = (let y = (c.rounds.invariant.0 c.requires.begun).0 in ((round lowest_first c.rounds.log.made c.requires.begun.game, searched y.present y.lowered), y.lowered.grown.counted.row-long, y.lowered.grown.hit_is.long))

pub grown_on-upper-requires : goal.grown_on-upper-requires
grown_on-upper-requires c = underway c.requires.begun.present.accepted (c.rounds.invariant.0 c.requires.begun).0

pub has_way-lost-requires : goal.has_way-lost-requires
has_way-lost-requires c = (let y = (c.rounds.invariant.0 c.requires.begun).0 in (few-states y.present, y.present.starts_is.long, (c.grown_on-upper.ensures (underway c.requires.begun.present.accepted y)).long))

pub returns-then-is_last-clause-played : goal.returns-then-is_last-clause-played
returns-then-is_last-clause-played c =
    λ v.
    let y = c.rounds.invariant.0 v in
    let ok = v.present.accepted in
    (y.0, stop_last ok y.0 c.has_way.ensures c.if-has_way.false (c.searched-found.ensures (round lowest_first c.rounds.log.made v.game) (searched y.0.present y.0.lowered)) c.args.allowance c.is_over-over.ensures c.rounds.invariant.1 y.1 (c.grown_on-upper.ensures (underway ok y.0)) c.has_way-lost.ensures c.is_last.ensures c.if-is_last.true)

pub overflow_mul-due : goal.overflow_mul-due
overflow_mul-due c = twice_fits c.requires.begun.present.accepted (c.rounds.invariant.0 c.requires.begun).0

pub overflow_add-due : goal.overflow_add-due
overflow_add-due c = due_fits c.requires.begun.present.accepted (c.rounds.invariant.0 c.requires.begun).0

pub overflow_add-clear : goal.overflow_add-clear
overflow_add-clear c = more_fits c.requires.begun.present.accepted (c.rounds.invariant.0 c.requires.begun).0

pub split_round-name-requires : goal.split_round-name-requires
split_round-name-requires c =
    (let v = c.requires.begun in
    let y = (c.rounds.invariant.0 v).0 in
    let ok = v.present.accepted in (
      underway ok y,
      rw c.block_number-b.ensures (next_here ok y c.has_way.ensures c.if-has_way.false (c.searched-found.ensures (round lowest_first c.rounds.log.made v.game) (searched y.present y.lowered)) c.args.allowance c.is_over-over.ensures (elim c.if-is_due.branch [
        | then-is_due+else-is_last w ↦ (neither _ _ w.is_last.ensures w.if-is_last.false).0
        | else-is_due w ↦ (neither _ _ c.is_due.ensures w.if-is_due.false).0
      ])),
    ))

pub overflow_cast-b : goal.overflow_cast-b
overflow_cast-b c =
    let v = c.requires.begun in
    let y = (c.rounds.invariant.0 v).0 in
    let ok = v.present.accepted in
    next_fits ok y c.has_way.ensures c.if-has_way.false (c.searched-found.ensures (round lowest_first c.rounds.log.made v.game) (searched y.present y.lowered)) c.args.allowance c.is_over-over.ensures (elim c.if-is_due.branch [
      | then-is_due+else-is_last w ↦ (neither _ _ w.is_last.ensures w.if-is_last.false).0
      | else-is_due w ↦ (neither _ _ c.is_due.ensures w.if-is_due.false).0
    ]) c.block_number-b.ensures

pub note-requires : goal.note-requires
note-requires c =
    let ok = c.requires.begun.present.accepted in
    let y = (c.rounds.invariant.0 c.requires.begun).0 in
    (in_log ok y c.requires.room.0 c.rounds.invariant.6.0.long, in_log ok y c.requires.room.1 c.rounds.invariant.6.1.long)

pub rounds-smaller : goal.rounds-smaller
rounds-smaller c =
    let v = c.requires.begun in
    let y = (c.rounds.invariant.0 v).0 in
    let ok = v.present.accepted in
    rw c.note.ensures.made (less_left ok y c.has_way.ensures c.if-has_way.false (c.searched-found.ensures (round lowest_first c.rounds.log.made v.game) (searched y.present y.lowered)) c.args.allowance c.is_over-over.ensures (elim c.if-is_due.branch [
      | then-is_due+else-is_last w ↦ (neither _ _ w.is_last.ensures w.if-is_last.false).0
      | else-is_due w ↦ (neither _ _ c.is_due.ensures w.if-is_due.false).0
    ]) c.rounds.invariant.1)

pub rounds-preserved : goal.rounds-preserved
rounds-preserved c =
    let inv = c.rounds.invariant in (
      (λ v.
          let y = (inv.0 v).0 in
          let ok = v.present.accepted in
          let way = c.has_way.ensures in
          let named = c.block_number-b.ensures in
          let next : Next (round lowest_first c.rounds.log.made v.game) c.args.board.now.moves.states c.rounds.block c.block_number-b.result = rw named (next_here ok y way c.if-has_way.false (c.searched-found.ensures (round lowest_first c.rounds.log.made v.game) (searched y.present y.lowered)) c.args.allowance c.is_over-over.ensures (elim c.if-is_due.branch [
            | then-is_due+else-is_last w ↦ (neither _ _ w.is_last.ensures w.if-is_last.false).0
            | else-is_due w ↦ (neither _ _ c.is_due.ensures w.if-is_due.false).0
          ])) in
          let split = c.split_round-name.ensures in
          let more : CatchableBefore v.game c.if-is_due.clear × (c.if-is_due.clear ≤ c.rounds.log.made + 1) =
          elim c.if-is_due.branch [
            | then-is_due+else-is_last w ↦ (
              rw w.clear-is (catchable-more v.game ok c.rounds.log.made (sym (open_now ok y way c.if-has_way.false (w.grown_on-upper.ensures (underway ok y)) w.has_way-lost.ensures) ∙ not-false w.has_way-lost.result (neither c.is_over-over.result (not w.has_way-lost.result) w.is_last.ensures w.if-is_last.false).1)),
              rw w.clear-is (le_refl (c.rounds.log.made + 1)),
            )
            | else-is_due w ↦ (rw w.clear-is y.hope, rw w.clear-is (clear_on ok y))
          ] in
          (rw (c.note.ensures.parents, c.note.ensures.names, c.note.ensures.made) (play-next ok y next split.named c.if-is_due.clear {finer = c.split_round-name.new.block} {last₁ = c.split_round-name.new.members.last.now} {before₁ = c.split_round-name.new.members.before.now} {size₁ = c.split_round-name.new.members.size.now} {have₁ = c.split_round-name.new.growth.have.now} {hit₁ = c.split_round-name.new.growth.hit.now} {lower₁ = c.split_round-name.new.lower} {queue₁ = c.split_round-name.new.growth.queue.now} {tail₁ = c.split_round-name.new.growth.tail} (uncaught_now ok y way c.if-has_way.false) more.0 more.1 (in_log ok y c.requires.room.0 inv.6.0.long) (in_log ok y c.requires.room.1 inv.6.1.long) (split.split (underway ok y) next).0 (split.split (underway ok y) next).1), λ z. absurd (some_made c.rounds.log.made (sym c.note.ensures.made ∙ z)))),
      (let v = c.requires.begun in let y = (inv.0 v).0 in let ok = v.present.accepted in rw c.note.ensures.made (allowed-next ok y c.has_way.ensures c.if-has_way.false (c.searched-found.ensures (round lowest_first c.rounds.log.made v.game) (searched y.present y.lowered)) c.args.allowance c.is_over-over.ensures (elim c.if-is_due.branch [
        | then-is_due+else-is_last w ↦ (neither _ _ w.is_last.ensures w.if-is_last.false).0
        | else-is_due w ↦ (neither _ _ c.is_due.ensures w.if-is_due.false).0
      ]) inv.1)),
      search rules,
      search rules,
      still-members c.args.members.now c.rounds.members c.split_round-name.new.members inv.4 c.split_round-name.ensures.same.0,
      still-growth c.args.growth.now c.rounds.growth c.split_round-name.new.growth inv.5 c.split_round-name.ensures.same.1,
      (still-row inv.6.0 c.note.ensures.same.0, still-row inv.6.1 c.note.ensures.same.1),
    )
