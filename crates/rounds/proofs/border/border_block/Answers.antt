-- `border_block` meets its contract: no block passed is a border block, no member passed of the present block is in the
-- forced-step set, and the moves passed of the present member tell what is known of it.
use Prim.Native.Nat.{suc, ◌-◌, ◌<◌}
use mathlib.Core.Path.{◌≡◌, refl, sym, ◌∙◌}
use native.Mathlib.Omega.{arith}
use Rattle.arena.proofs.Loops.{some-zero, some_still}
use Rattle.rounds.proofs.Searching.{members_none, members_more, members_less, first-low, to_low, told_none, told_more, told_all, border-closed, border-none, border-member, answer-none, answer_found}
use Rattle.rounds.proofs.border.border_block.Goals as goal
use Rattle.rounds.proofs.border.border_block.Goals.{then-is_open+else-loop-at-test, else-is_open}

pub loop-b-init : goal.loop-b-init
loop-b-init c = (omega arith, λ g q. some-zero _)

pub loop-at-init : goal.loop-at-init
loop-at-init c = members_none c.requires.0.1.chains c.loop-b-test.true

pub loop-k-init : goal.loop-k-init
loop-k-init c =
    let at = c.loop-at.at in
    let low = c.loop-at.invariant.low in
    let e : at ≡ suc (at - 1) = omega arith in (
      omega arith,
      first-low c.requires.0.1 (at - 1) (omega arith),
      first-low c.requires.0.1 at low,
      to_low c.requires.0.1 at low,
      λ g q. told_none q (at - 1) at (omega arith) e,
    )

pub loop-k-preserved : goal.loop-k-preserved
loop-k-preserved c =
    let at = c.loop-at.at in
    let low = c.loop-at.invariant.low in
    let inv = c.loop-k.invariant in
    let e : at ≡ suc (at - 1) = omega arith in (
      omega arith,
      omega arith,
      inv.2,
      inv.3,
      λ g q. told_more q (at - 1) at (omega arith) e c.loop-k.k (inv.4 g q) inv.0 c.loop-k-test.true c.after_move-known.ensures,
    )

pub loop-at-smaller : goal.loop-at-smaller
loop-at-smaller c = omega (arith, members_less c.requires.0.1.chains (c.loop-at.at - 1) (omega (arith, c.loop-at.invariant.low)))

pub loop-at-preserved : goal.loop-at-preserved
loop-at-preserved c =
    let at = c.loop-at.at in
    let low = c.loop-at.invariant.low in
    let inv = c.loop-k.invariant in
    let e : at ≡ suc (at - 1) = omega arith in
    members_more c.requires.0.1.chains at (at - 1) c.loop-at.invariant e
    (λ g q. sym (told_all q (at - 1) at (omega arith) e c.loop-k.k (inv.4 g q) c.loop-k-test.false inv.1) ∙ c.if-known.false)

pub loop-b-preserved : goal.loop-b-preserved
loop-b-preserved c =
    let b = c.loop-b.b in
    let is = c.is_open.ensures in
    let l = c.loop-b-test.true in (
      omega arith,
      λ g q. some_still _ _ _ (c.loop-b.invariant.1 g q) refl
          (elim c.if-is_open.branch [
            | then-is_open+else-loop-at-test w ↦ border-none q b l is w.if-is_open.true (λ t h z. w.loop-at.invariant.passed t (omega arith) h z g q)
            | else-is_open w ↦ border-closed q b l is w.if-is_open.false
          ]),
    )

pub returns-after-loop-b : goal.returns-after-loop-b
returns-after-loop-b c = λ g q. answer-none _ _ _ (c.loop-b.invariant.1 g q) (omega arith) (omega arith)

pub returns-then-known : goal.returns-then-known
returns-then-known c =
    let at = c.loop-at.at in
    let low = c.loop-at.invariant.low in
    let inv = c.loop-k.invariant in
    let e : at ≡ suc (at - 1) = omega (arith, c.loop-at-test.true) in
    let l = c.loop-b-test.true in
    let r : at - 1 < c.args.board.now.moves.states = omega arith in
    λ g q.
    let inside = sym (told_all q (at - 1) at r e c.loop-k.k (inv.4 g q) c.loop-k-test.false inv.1) ∙ c.if-known.true in
    answer_found _ _ _ l (c.loop-b.invariant.1 g q)
    (border-member q c.loop-b.b l c.is_open.ensures c.if-is_open.true (at - 1) r (c.loop-at.invariant.stands (at - 1) e) inside)
