-- `some_initial` meets its contract.
use native.Mathlib.Omega.{arith}
use mathlib.Core.Path.{refl}
use borrow.Author.Tests.{tests}
use Rattle.std.proofs.Common.{rules}
use Rattle.std.proofs.lemmas.Iterator.{YieldsList-from_range}
use Rattle.std.proofs.lemmas.Iterator.Search.{any_from_yields_List}
use Rattle.file.specs.Refusals.{initial}
use Rattle.file.proofs.Told.{some_listed}
use Rattle.file.proofs.SoundRecords.some_initial.Goals as goal

pub returns : goal.returns
returns c =
    let n = c.args.self.now.records.states in
    let file = c.args.self.now.records.file.now in
    some_listed n (initial file) _ (any_from_yields_List (initial file) _ _ _ c.any.ensures.ran (YieldsList-from_range 0 n n refl (omega arith)) (λ x b q k. search (rules, tests)))
