-- `hand_back` meets its contract.
use mathlib.Core.Path.{refl, ap, ◌∙◌}
use native.Mathlib.Omega.{arith}
use Rattle.game.specs.Game.{block_at}
use Rattle.runs.specs.Run.{word}
use Rattle.solver.specs.Rules.{mark, planned}
use Rattle.solver.specs.Solve.{said}
use Rattle.solver.specs.declared.Decision.{Decision}
use Rattle.solver.proofs.HandingBack.{planning, marks_are, decided_word, written}
use Rattle.solver.proofs.hand_back.Goals as goal

pub returns-clause-back : goal.returns-clause-back
returns-clause-back c =
    λ g f. let made = marks_are f _ c.mark_row-worked.ensures in
    let told = c.decide-decision.ensures ∙ decided_word f c.mark_row-worked.result made in (
      c.spoken.ensures ∙ ap (λ (d : Decision). said d c.args.ran.now.splits) told,
      rw (
        written f (mark g) c.mark_row-worked.result _ _ made c.copy_row.ensures.filled,
        written f (block_at g) c.args.block.now _ _ (λ s l. f.block_is.cell s (omega (arith, f.states_is))) c.copy_row-2.ensures.filled,
        written f (planned (word g) g) c.plan_row-plan.result _ _ (c.plan_row-plan.ensures g (planning f) told) c.copy_row-3.ensures.filled,
      ) refl,
    )
