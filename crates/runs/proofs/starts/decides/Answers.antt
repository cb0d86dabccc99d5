-- `decides` meets its contract.
use mathlib.Core.Path.{refl}
use Rattle.runs.proofs.starts.decides.Goals as goal

pub returns-then-has_mark : goal.returns-then-has_mark
returns-then-has_mark c = rw (← c.has_mark.ensures, c.if-has_mark.true) refl

pub returns-else-has_mark : goal.returns-else-has_mark
returns-else-has_mark c = rw (← c.has_mark.ensures, c.if-has_mark.false) refl
