-- `rewind` meets its contract: whichever game the log is of, the row has the blocks of round k.
use Prim.Native.Nat.{◌-◌}
use mathlib.Core.Path.{◌≡◌}
use native.Mathlib.Omega.{arith}
use Rattle.runs.proofs.Undone.{log-undo}
use Rattle.runs.proofs.log.SplitLog.rewind.Goals as goal

pub loop-k-init : goal.loop-k-init
loop-k-init c = (c.requires.0.4, omega arith, (λ g made log l was. was))

pub bounds-self-k : goal.bounds-self-k
bounds-self-k c = let given = c.requires.0 in omega (arith, given.2.parents_long, given.3)

pub bounds-self-k-in-loop-k : goal.bounds-self-k-in-loop-k
bounds-self-k-in-loop-k c = let given = c.requires.0 in omega (arith, given.2.names_long, given.3)

pub undo_split-requires : goal.undo_split-requires
undo_split-requires c = (c.requires.1, omega (arith, c.requires.0.5.long))

pub loop-k-preserved : goal.loop-k-preserved
loop-k-preserved c =
    let inv = c.loop-k.invariant in
    let k = c.loop-k.k in (
      omega arith,
      omega arith,
      (λ g made log l was. log-undo log (k - 1) k (omega arith) (omega arith) (inv.2 g made log l was) c.undo_split.ensures),
    )

pub returns : goal.returns
returns c =
    let e : c.loop-k.k ≡ c.args.earlier = omega arith in
    (λ g made log l was. rw e at (c.loop-k.invariant.2 g made log l was))
