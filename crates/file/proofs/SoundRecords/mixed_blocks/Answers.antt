-- `mixed_blocks` meets its contract.
use native.Mathlib.Omega.{arith}
use mathlib.Core.Path.{refl}
use borrow.Author.Tests.{tests}
use Rattle.std.proofs.Common.{rules}
use Rattle.std.proofs.lemmas.Iterator.{YieldsList-from_range}
use Rattle.std.proofs.lemmas.Iterator.Search.{any_from_yields_List}
use Rattle.arena.specs.Sets.{Set}
use Rattle.file.specs.Layout.{states, marks}
use Rattle.game.specs.Game.{marked}
use Rattle.file.proofs.Told.{some_listed}
use Rattle.file.proofs.Mixed.{differs, mixed_searched}
use Rattle.file.proofs.SoundRecords.mixed_blocks.Goals as goal

pub returns : goal.returns
returns c =
    let file = c.args.self.now.records.file.now in
    let own : Set = λ s. marked c.args.mark (marks file s) in
    let all = YieldsList-from_range 0 c.args.self.now.records.states (states file) refl (omega (arith, c.args.self.now.records.counted.states-said)) in
    mixed_searched file own c.args.self.now.sound _ (some_listed (states file) (differs file own) _ (any_from_yields_List (differs file own) _ _ _ c.any.ensures.ran all (λ x b q k. search (rules, tests))))
