-- `exchange_part` meets its contract.
use native.Mathlib.Omega.{arith}
use mathlib.Core.Path.{refl}
use Rattle.game.proofs.Rows.{walk, fill_store, fill_done}
use Rattle.exchange.proofs.exchange_part.Goals as goal

pub loop-i-init : goal.loop-i-init
loop-i-init c = (search walk, refl, λ row e q. q)

pub loop-i-preserved : goal.loop-i-preserved
loop-i-preserved c =
    let inv = c.loop-i.invariant in
    (search walk, search walk, λ row e q. fill_store _ _ _ (omega (arith, e, c.requires, c.loop-i-test.true)) _ (inv.2 row e q) _ (rw c.requires.0 at c.exchanged_byte.ensures))

pub returns : goal.returns
returns c = λ row e q. fill_done _ _ _ _ _ (c.loop-i.invariant.2 row e q) (omega arith) (omega arith)
