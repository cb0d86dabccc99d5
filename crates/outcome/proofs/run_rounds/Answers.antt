-- `run_rounds` meets its contract: each answer is a step of the run's course.
use Prim.Native.Nat.{ℕ, ◌≤◌}
use mathlib.Core.Path.{◌≡◌}
use native.Mathlib.Nat.{le_refl}
use native.Mathlib.Omega.{arith}
use Rattle.game.specs.Limits.{max_states}
use Rattle.rows.proofs.Present.{lent, few-states}
use Rattle.outcome.proofs.Course.{begins, stops, fits, finishes, ends}
use Rattle.outcome.proofs.run_rounds.Goals as goal

-- a row of the limit's length has a place for each state
within-row : {n k : ℕ} → n ≤ max_states → k ≡ max_states → n ≤ k
within-row few e = omega arith

pub copy_row-requires : goal.copy_row-requires
copy_row-requires c = let p = c.requires.1 in (p.prey_is.long, few-states p)

pub grow_anew-requires : goal.grow_anew-requires
grow_anew-requires c =
    let p = c.requires.1 in
    let few = few-states p in
    record { lent = (c.requires.0, c.args.board.now.side, lent p); linked = (p.chains, (few, few, few), (few, few, few), c.copy_row.ensures.held.long) }

pub play_rounds-stop-requires : goal.play_rounds-stop-requires
play_rounds-stop-requires c =
    let done = c.grow_anew.ensures in
    record { begun = begins c.requires.1 c.copy_row.ensures.held (done.stamped c.requires.0 c.args.board.now.side (lent c.requires.1)) done.gathered.0 done.gathered.1; room = (le_refl max_states, le_refl max_states) }

pub last_round-splits-requires : goal.last_round-splits-requires
last_round-splits-requires c =
    let done = c.grow_anew.ensures in
    rw (c.shared.ensures.parents, c.shared.ensures.names, c.shared.ensures.made) (stops c.requires.1 c.copy_row.ensures.held (done.stamped c.requires.0 c.args.board.now.side (lent c.requires.1)) done.gathered.0 done.gathered.1 c.play_rounds-stop.ensures.played)

pub last_rows-upper-requires : goal.last_rows-upper-requires
last_rows-upper-requires c =
    let done = c.grow_anew.ensures in
    let few = few-states c.requires.1 in
    record {
      finishing = finishes c.requires.1 c.copy_row.ensures.held (done.stamped c.requires.0 c.args.board.now.side (lent c.requires.1)) done.gathered.0 done.gathered.1 c.play_rounds-stop.ensures.played (rw (c.shared.ensures.parents, c.shared.ensures.names, c.shared.ensures.made) at c.last_round-splits.ensures);
      room = (let y = (c.play_rounds-stop.ensures.played (begins c.requires.1 c.copy_row.ensures.held (done.stamped c.requires.0 c.args.board.now.side (lent c.requires.1)) done.gathered.0 done.gathered.1)).0.lowered in ((y.gathered.chains.lasts.long, y.gathered.chains.befores.long, y.gathered.sizes.long), (y.grown.counted.counts.long, y.grown.hit_is.long, y.grown.counted.listed.room), y.grown.counted.row-long));
    }

pub overflow_cast-result : goal.overflow_cast-result
overflow_cast-result c =
    let done = c.grow_anew.ensures in
    fits c.requires.1 c.copy_row.ensures.held (done.stamped c.requires.0 c.args.board.now.side (lent c.requires.1)) done.gathered.0 done.gathered.1 c.play_rounds-stop.ensures.played (rw (c.shared.ensures.parents, c.shared.ensures.names, c.shared.ensures.made) at c.last_round-splits.ensures)

pub returns : goal.returns
returns c =
    λ g p.
    let done = c.grow_anew.ensures in
    ends p c.copy_row.ensures.held (done.stamped g c.args.board.now.side (lent p)) done.gathered.0 done.gathered.1 c.play_rounds-stop.ensures.played (rw (c.shared.ensures.parents, c.shared.ensures.names, c.shared.ensures.made) at c.last_round-splits.ensures) c.last_rows-upper.ensures.last
