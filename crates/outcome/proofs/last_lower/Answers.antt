-- `last_lower` meets its contract.
use Rattle.rows.proofs.Present.{lent}
use Rattle.outcome.proofs.Course.{lowered_anew, numbered_anew}
use Rattle.outcome.proofs.last_lower.Goals as goal

pub copy_row-requires : goal.copy_row-requires
copy_row-requires c = (let f = c.requires.finishing in (f.present.prey_is.long, c.requires.room.2))

pub grow_anew-requires : goal.grow_anew-requires
grow_anew-requires c = (let f = c.requires.finishing in let l = c.requires.room in record { lent = (f.game, f.side, lent f.present); linked = (f.present.chains, l.0, l.1, c.copy_row.ensures.held.long) })

pub returns-then-made-gt0 : goal.returns-then-made-gt0
returns-then-made-gt0 c =
    let copied = c.copy_row.ensures.held in
    let done = c.grow_anew.ensures in
    record {
      lowered =
          λ f.
          let held = done.stamped f.game f.side (lent f.present) in
          (lowered_anew f.present copied held done.gathered.0 done.gathered.1, numbered_anew f.present copied held);
      same = done.same;
    }
