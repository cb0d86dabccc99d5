-- `moved_row` meets its contract.
use native.Mathlib.Omega.{arith}
use mathlib.Core.Path.{◌≡◌, refl, sym, ap, ◌∙◌}
use mathlib.Core.Bool.{false}
use Prim.Native.Nat.{ℕ, ◌+◌, ◌<◌}
use lib.ListN.{length-set}
use Rattle.arena.proofs.Loops.{some-zero}
use Rattle.file.specs.Layout.{number_at, moves, from, move_at}
use Rattle.file.specs.Refusals.{moved}
use Rattle.game.proofs.Rows.{blank-cell}
use Rattle.game.specs.Limits.{max_states}
use Rattle.game.specs.Rows.{blank}
use Rattle.file.proofs.Told.{told_more}
use Rattle.file.proofs.SoundRecords.moved_row.Goals as goal

pub loop-k-init : goal.loop-k-init
unfolding blank
loop-k-init c = (omega arith, refl, λ s l. blank-cell max_states s false ∙ sym (some-zero _))

pub pair_at-from-requires : goal.pair_at-from-requires
unfolding move_at
pair_at-from-requires c = omega (arith, c.move_at.ensures.0, c.args.self.now.sound.long, c.args.self.now.records.counted.states-said, c.args.self.now.records.counted.moves-said)

pub loop-k-preserved : goal.loop-k-preserved
loop-k-preserved c =
    let said = c.args.self.now.records.counted in
    let read : c.from.result ≡ from c.args.self.now.records.file.now c.loop-k.k = c.from.ensures ∙ c.pair_at-from.ensures.0 ∙ ap (λ (i : ℕ). number_at c.args.self.now.records.file.now (i + 4)) c.move_at.ensures.0 in
    let in_row : c.from.result < max_states = omega (arith, read, c.args.self.now.sound.froms c.loop-k.k (omega (arith, said.moves-said)), c.args.self.now.sound.few-states) in (
      omega arith,
      length-set c.loop-k.has c.from.result _ ∙ c.loop-k.invariant.1,
      told_more max_states c.loop-k.k c.loop-k.has (from c.args.self.now.records.file.now) c.loop-k.invariant.1 c.loop-k.invariant.2 c.from.result read in_row,
    )

pub returns : goal.returns
unfolding moved
returns c =
    let e : c.loop-k.k ≡ moves c.args.self.now.records.file.now = omega (arith, c.args.self.now.records.counted.moves-said) in
    record { long = c.loop-k.invariant.1; cell = rw e at c.loop-k.invariant.2 }
