-- `hunting_side` meets its contract.
use mathlib.Core.Path.{refl}
use borrow.Author.Tests.{eq-eqb, ne_eqb}
use Rattle.rounds.proofs.prey.hunting_side.Goals as goal

pub returns-then-objective-eq1 : goal.returns-then-objective-eq1
returns-then-objective-eq1 c = (rw (eq-eqb _ _ c.if-objective-eq1.true) refl, tt)

pub returns-else-objective-eq1 : goal.returns-else-objective-eq1
returns-else-objective-eq1 c = (rw (ne_eqb _ _ c.if-objective-eq1.false) refl, tt)
