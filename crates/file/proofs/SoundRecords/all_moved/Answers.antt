-- `all_moved` meets its contract.
use mathlib.Core.Path.{◌≡◌}
use mathlib.Core.Bool.{true, false}
use borrow.Author.Tests.{tests}
use Rattle.std.proofs.Common.{rules}
use Rattle.std.proofs.lemmas.Iterator.{cases_from_all, YieldsList-from_slice}
use Rattle.file.proofs.Told.{all_told}
use Rattle.file.proofs.SoundRecords.all_moved.Goals as goal

pub returns : goal.returns
returns c =
    all_told _ c.args.self.now.records.states _ _ c.all.result c.moved_row.ensures.long c.args.self.now.records.counted.few-states c.moved_row.ensures.cell
    (cases_from_all _ _ _ (λ b. b ≡ true) (λ b. b ≡ false) c.all.ensures.ran (YieldsList-from_slice _ cc) (λ x q k. search (rules, tests)) (λ x q k. search (rules, tests)))
