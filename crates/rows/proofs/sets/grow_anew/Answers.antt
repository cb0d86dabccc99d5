-- `grow_anew` meets its contract.
use Prim.Native.Nat.{ℕ, ◌≤◌}
use mathlib.Core.List.{List}
use Rattle.game.specs.Limits.{max_states}
use Rattle.game.specs.declared.Game.{Game}
use Rattle.chains.specs.Lent.{Lent}
use Rattle.growth.proofs.Says.{blocks}
use Rattle.rows.proofs.Copies.{counted_none}
use Rattle.rows.proofs.sets.grow_anew.Goals as goal

-- the states of rows that are lent are few
sound-few : {g : Game} {side n m : ℕ} {from to need block : List ℕ} → Lent g side n m from to need block → n ≤ max_states
sound-few p = rw (← p.states_is) p.ranged.few-states

pub gather-requires : goal.gather-requires
gather-requires c = ((sound-few c.requires.lent.2, blocks c.requires.lent.2, c.requires.linked.1))

pub clear-requires : goal.clear-requires
clear-requires c = c.requires.linked.2.0

pub list_states-growth-requires : goal.list_states-growth-requires
list_states-growth-requires c = ((sound-few c.requires.lent.2, c.requires.linked.3, c.requires.linked.2.2))

pub grow-requires : goal.grow-requires
grow-requires c =
    record {
      lent = c.requires.lent;
      linked = (c.requires.linked.0, rw (c.shared.ensures.last, c.shared.ensures.before, c.shared.ensures.size) c.gather.ensures.gathered, c.requires.linked.2.1, counted_none _ _ _ _ c.clear.ensures c.list_states-growth.ensures c.requires.linked.3);
    }

pub returns-clause-gathered : goal.returns-clause-gathered
returns-clause-gathered c = (c.gather.ensures.gathered, rw c.shared.ensures.size at c.grow.ensures.grown)

pub returns-clause-stamped : goal.returns-clause-stamped
returns-clause-stamped c = c.grow.ensures.stamped
