-- `last_rows` meets its contract.
use Rattle.outcome.proofs.Course.{underway-last}
use Rattle.outcome.proofs.last_rows.Goals as goal

pub last_lower-requires : goal.last_lower-requires
last_lower-requires c = record { finishing = c.requires.finishing; room = c.requires.room }

pub upper_row-requires : goal.upper_row-requires
upper_row-requires c = (let f = c.requires.finishing in rw (c.shared.ensures.last, c.shared.ensures.before, c.shared.ensures.size) (underway-last f.present (c.last_lower.ensures.lowered f).0))

pub returns : goal.returns
returns c =
    record {
      last = λ f. let low = c.last_lower.ensures.lowered f in (low.1, (rw (c.shared.ensures.last, c.shared.ensures.before, c.shared.ensures.size) at c.upper_row.ensures) (underway-last f.present low.0));
      same = c.last_lower.ensures.same;
    }
