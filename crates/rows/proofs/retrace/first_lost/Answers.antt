-- `first_lost` meets its contract: no round below `low` is lost, and round `high` is.
use Prim.Native.Nat.{ℕ}
use mathlib.Core.Path.{◌≡◌, refl, sym, ◌∙◌}
use mathlib.Core.List.{List}
use native.Mathlib.Omega.{arith}
use borrow.Author.Rules.{rules}
use lib.ListN.{get_or}
use Rattle.chains.specs.Lent.{Holds}
use Rattle.chains.proofs.Counts.{holds_cong}
use Rattle.runs.specs.Run.{lowest_first, round}
use Rattle.runs.proofs.First.{bisect_left, bisect_right}
use Rattle.rows.proofs.Present.{few-states}
use Rattle.rows.proofs.Splitting.{present-round}
use Rattle.rows.proofs.retrace.first_lost.Goals as goal

-- a copy holds what the row held
copied : {n : ℕ} {row copy : List ℕ} {f : ℕ → ℕ} → Holds n copy (λ s. get_or row s 0) → Holds n row f → Holds n copy f
copied c h = holds_cong c h.cell

pub loop-low-init : goal.loop-low-init
loop-low-init c = (c.requires.bisecting.low, omega arith, (λ t. (t.bisecting, t.blocks_are)), refl, search rules, λ _. refl)

pub overflow_sub-middle : goal.overflow_sub-middle
overflow_sub-middle c = omega (arith, c.loop-low-test.true, c.loop-low.invariant.1, c.requires.log.parents_long)

pub overflow_add-middle : goal.overflow_add-middle
overflow_add-middle c = omega (arith, c.loop-low-test.true, c.loop-low.invariant.1, c.requires.log.parents_long)

pub copy_row-requires : goal.copy_row-requires
copy_row-requires c = (let t = c.requires in let inv = c.loop-low.invariant in ((inv.2 t).1.long, omega (arith, c.loop-low.invariant.4, few-states t.present)))

pub rewind-requires : goal.rewind-requires
rewind-requires c = (let t = c.requires in let inv = c.loop-low.invariant in ((t.game, c.args.log.now.made, t.log, inv.1, omega (arith, c.loop-low-test.true), copied c.copy_row.ensures.held (inv.2 t).1), few-states t.present))

pub may_have_way-requires : goal.may_have_way-requires
may_have_way-requires c = (let t = c.requires in let inv = c.loop-low.invariant in (round lowest_first _ t.game, t.side, t.turn, t.first, present-round _ t.present (c.rewind.ensures t.game c.args.log.now.made t.log inv.1 (copied c.copy_row.ensures.held (inv.2 t).1))))

pub overflow_add-low : goal.overflow_add-low
overflow_add-low c = omega (arith, c.loop-low-test.true, c.loop-low.invariant.1)

pub loop-low-smaller-then-may_have_way : goal.loop-low-smaller-then-may_have_way
loop-low-smaller-then-may_have_way c = omega (arith, c.loop-low-test.true)

pub loop-low-preserved-then-may_have_way : goal.loop-low-preserved-then-may_have_way
loop-low-preserved-then-may_have_way c =
    let inv = c.loop-low.invariant in
    let left = c.loop-low-test.true in (
      omega (arith, left),
      inv.1,
      (λ t.
          let there = c.rewind.ensures t.game c.args.log.now.made t.log inv.1 (copied c.copy_row.ensures.held (inv.2 t).1) in
          (bisect_right t.present.accepted (inv.2 t).0 _ (omega (arith, left)) (sym (c.may_have_way.ensures _ t.side t.turn t.first (present-round _ t.present there)) ∙ c.if-may_have_way.true), (inv.2 t).1)),
      inv.3,
      search rules,
      inv.5,
    )

pub copy_row-requires-else-may_have_way : goal.copy_row-requires-else-may_have_way
copy_row-requires-else-may_have_way c =
    (let t = c.requires in let inv = c.loop-low.invariant in
    let there = c.rewind.ensures t.game c.args.log.now.made t.log inv.1 (copied c.copy_row.ensures.held (inv.2 t).1) in
    (there.long, (inv.2 t).1.long))

pub loop-low-smaller : goal.loop-low-smaller
loop-low-smaller c = omega (arith, c.loop-low-test.true)

pub loop-low-preserved : goal.loop-low-preserved
loop-low-preserved c =
    let inv = c.loop-low.invariant in
    let left = c.loop-low-test.true in (
      omega (arith, left),
      omega (arith, left, inv.1),
      (λ t.
          let there = c.rewind.ensures t.game c.args.log.now.made t.log inv.1 (copied c.copy_row.ensures.held (inv.2 t).1) in
          (bisect_left (inv.2 t).0 _ (omega arith) (sym (c.may_have_way.ensures _ t.side t.turn t.first (present-round _ t.present there)) ∙ c.if-may_have_way.false), copied c.copy_row-else-may_have_way.ensures.held there)),
      search rules,
      search rules,
      λ z. absurd (omega (arith, left, inv.1)),
    )

pub returns : goal.returns
returns c =
    let inv = c.loop-low.invariant in
    let e : c.loop-low.low ≡ c.loop-low.high = omega (arith, c.loop-low-test.false, inv.0) in
    ((λ t. (rw e at (inv.2 t).0, (inv.2 t).1)), inv.1, inv.5)
