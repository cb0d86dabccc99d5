-- `exchange` meets its contract.
use native.Mathlib.Omega.{arith}
use mathlib.Core.Path.{◌≡◌, refl, sym, ◌∙◌}
use Rattle.std.specs.Prelude.{Err}
use Rattle.std.proofs.Common.{rules}
use Rattle.game.proofs.Rows.{fill_none}
use Rattle.file.specs.Layout.{states}
use Rattle.file.proofs.Sound.{taken_sound}
use Rattle.exchange.proofs.Ends.{file-refused, room-refused, all-written}
use Rattle.exchange.proofs.exchange.Goals as goal

pub returns-in_err-first_refusal : goal.returns-in_err-first_refusal
returns-in_err-first_refusal c =
    let refused = c.in_err-first_refusal.field-0.0 in
    let given : c.from_residual.result ≡ Err refused = search rules in
    rw given (file-refused _ _ refused c.in_err-first_refusal.ensures)

pub returns-then-out-file : goal.returns-then-out-file
returns-then-out-file c = room-refused _ _ c.in_ok-first_refusal.ensures c.if-out-file.true

pub number_at-requires : goal.number_at-requires
number_at-requires c = omega (arith, (taken_sound _ c.in_ok-first_refusal.ensures).states-long)

pub exchange_part-requires : goal.exchange_part-requires
exchange_part-requires c =
    let sound = taken_sound _ c.in_ok-first_refusal.ensures in
    let n : c.from-n.result ≡ states c.args.file.now = c.from-n.ensures ∙ c.number_at.ensures in
    (n, rw n sound.few-states, omega arith, rw n sound.states-long, omega (arith, c.if-out-file.false))

pub exchange_part-requires-2 : goal.exchange_part-requires-2
exchange_part-requires-2 c =
    let sound = taken_sound _ c.in_ok-first_refusal.ensures in
    let n : c.from-n.result ≡ states c.args.file.now = c.from-n.ensures ∙ c.number_at.ensures in
    (n, rw n sound.few-states, rw n sound.states-long, omega arith, omega (arith, c.if-out-file.false, c.exchange_part.auto.out))

pub returns : goal.returns
returns c =
    let states-written = c.exchange_part.ensures c.args.out.now refl (fill_none _ _) in
    all-written _ _ c.in_ok-first_refusal.ensures (λ i. (c.type_inv.file i).fits) c.if-out-file.false _ (c.exchange_part-2.ensures c.args.out.now (sym c.exchange_part.auto.out) states-written)
