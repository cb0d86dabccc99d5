-- `wrapped` meets its contract.
use Rattle.std.proofs.Common.{rules, ◌≡◌, ◌≤◌, ◌<◌, length}
use Rattle.std.proofs.lemmas.List.{get_or-set_same, get_or-set_other, length-replicate}
use mathlib.Core.Path.{refl, ◌∙◌}
use mathlib.Core.Logic.{⊎_elim}
use native.Mathlib.Omega.{arith}
use Rattle.arena.proofs.Loops.{le_or_lt}
use Rattle.game.specs.Rows.{blank}
use Rattle.game.proofs.Rows.{blank-cell}
use Rattle.decoding.proofs.wrapped.Goals as goal

pub loop-k-init : goal.loop-k-init
unfolding blank
loop-k-init g c = (search rules, refl, λ k l. absurd (omega arith), λ k l. blank-cell g.row.N k c.args.rest)

pub loop-k-preserved : goal.loop-k-preserved
loop-k-preserved g c =
    let inv = c.loop-k.invariant in (
      search rules,
      search rules,
      λ k l.
          ⊎_elim
          (λ (at : c.loop-k.k ≤ k). let e : k ≡ c.loop-k.k = omega arith in
          let in_row : c.loop-k.k < length c.loop-k.row = omega (arith, inv.1, length-replicate g.row.N c.args.rest, c.requires) in
          rw (e, get_or-set_same c.loop-k.row c.loop-k.k c.wrap.result c.args.rest in_row) c.wrap.ensures)
          (λ (before : k < c.loop-k.k). rw (get_or-set_other c.loop-k.row c.loop-k.k k c.wrap.result c.args.rest (λ e. omega arith)) (inv.2 k before))
          (le_or_lt c.loop-k.k k),
      λ k l. get_or-set_other c.loop-k.row c.loop-k.k k c.wrap.result c.args.rest (λ e. omega arith) ∙ inv.3 k (omega arith),
    )
