-- `part_block` meets its contract: both parts are linked anew, and all else stays.
use mathlib.Core.Path.{◌≡◌, refl}
use mathlib.Core.Bool.{Bool, true, false, not, cond}
use Prim.Native.Nat.{ℕ}
use lib.ListN.{get_or}
use Rattle.growth.proofs.Members.{none_below_one, none-below-two, parted, hits_parted}
use Rattle.rounds.specs.Renamed.{enough}
use Rattle.rounds.proofs.split.part_block.Goals as goal

-- a choice by the other test
cond-not : (x : Bool) (v : ℕ) → cond (not x) v 0 ≡ cond x 0 v
cond-not true v = refl
cond-not false v = refl

pub relink-one-requires : goal.relink-one-requires
relink-one-requires c =
    (let split = c.split_block-name.ensures in
    (c.requires.0, c.requires.1, split.parted.long, c.requires.7.chains.befores.long, none_below_one c.requires.5 c.requires.1 c.requires.6 (enough c.args.moves.now.need.now c.args.have.now) split.named (rw split.named c.requires.9) split.parted))

pub relink-two-requires : goal.relink-two-requires
relink-two-requires c =
    (let split = c.split_block-name.ensures in
    (c.requires.0, rw split.named c.requires.9, split.parted.long, c.relink-one.ensures.2.long, none-below-two c.requires.5 c.requires.1 c.requires.6 (enough c.args.moves.now.need.now c.args.have.now) split.named (rw split.named c.requires.9) split.parted))

pub returns-clause-named : goal.returns-clause-named
returns-clause-named c = c.split_block-name.ensures.named

pub returns-clause-parted : goal.returns-clause-parted
returns-clause-parted c = c.split_block-name.ensures.parted

pub returns-clause-gathered : goal.returns-clause-gathered
returns-clause-gathered c =
    let split = c.split_block-name.ensures in
    let one = c.relink-one.ensures in
    let two = c.relink-two.ensures in
    let C = enough c.args.moves.now.need.now c.args.have.now in (
      rw (one.0, one.1, two.0, two.1) (parted c.requires.5 c.requires.1 c.requires.6 C split.named (rw split.named c.requires.9) split.parted c.requires.7 one.2 two.2),
      rw (c.only_if.ensures, c.only_if-2.ensures, one.1, two.1, cond-not (C c.args.b)) (hits_parted c.requires.5 c.requires.1 c.requires.6 C split.named (rw split.named c.requires.9) split.parted c.args.moves.now.need.now (λ s. get_or c.args.have.now s 0) (λ s. refl) c.requires.8),
    )
