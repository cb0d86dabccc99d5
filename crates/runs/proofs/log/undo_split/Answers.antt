-- `undo_split` meets its contract: the places passed have the blocks before the split, the others those after it.
use Prim.Native.Nat.{ℕ}
use mathlib.Core.Path.{◌≡◌, refl, ◌∙◌}
use mathlib.Core.Bool.{cond}
use native.Mathlib.Omega.{arith}
use lib.ListN.{length, take}
use lib.Dec.{eqb}
use borrow.Author.Tests.{eq-eqb, ne_eqb}
use Rattle.std.proofs.lemmas.List.{length-take-le}
use Rattle.game.proofs.Rows.{fill_none}
use Rattle.chains.proofs.Filling.{change_more}
use Rattle.runs.proofs.Undone.{front_changed}
use Rattle.runs.proofs.log.undo_split.Goals as goal
use Rattle.runs.proofs.log.undo_split.Goals.{then-own-name, else-own-name}

pub loop-own-init : goal.loop-own-init
loop-own-init c = fill_none _ _

pub loop-own-preserved : goal.loop-own-preserved
loop-own-preserved c =
    let k = c.loop-own.own-index in
    let old = take c.args.n c.args.block.now in
    let h : ℕ → ℕ → ℕ = λ _ v. cond (eqb v c.args.name) c.args.parent v in
    elim c.if-own-name.branch [
      | then-own-name w ↦ w.own-items-is ∙ change_more h k old (omega arith) c.loop-own.invariant _ (rw (eq-eqb _ _ w.if-own-name.true) refl)
      | else-own-name w ↦ w.own-items-is ∙ change_more h k old (omega arith) c.loop-own.invariant _ (rw (ne_eqb _ _ w.if-own-name.false) refl)
    ]

pub returns : goal.returns
returns c =
    let few : length (take c.args.n c.args.block.now) ≡ c.args.n = length-take-le c.args.n c.args.block.now c.requires.1 in
    front_changed (λ v. cond (eqb v c.args.name) c.args.parent v) c.args.n c.loop-own.own-index c.args.block.now c.requires.1 c.loop-own.invariant c.loop-own.auto.own-items (omega arith)
