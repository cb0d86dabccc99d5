-- What the rows that travel together say of a set that grows.
use Rattle.std.specs.Prelude.{ℕ, ◌≤◌, Bool, List, length}
use Rattle.arena.specs.Sets.{Set}
use Rattle.chains.specs.declared.lent.Moves.{Moves}
use Rattle.chains.specs.declared.lent.Members.{Members}
use Rattle.chains.specs.declared.lent.MembersMut.{MembersMut}
use Rattle.chains.specs.Grouped.{SameRow}
use Rattle.growth.specs.declared.Growth.{Growth}
use Rattle.growth.specs.Net.{Net, net}
use Rattle.growth.specs.Queue.{Counted, Grown, Regrowing}

-- the net of lent rows
abbrev pub net_of : Moves → Bool → List ℕ → Members → Net
net_of moves whole block members = net moves.states moves.moves whole moves.from.now moves.to.now moves.need.now block members.size.now

-- the same over rows that are written
abbrev pub net_in : Moves → Bool → List ℕ → MembersMut → Net
net_in moves whole block members = net moves.states moves.moves whole moves.from.now moves.to.now moves.need.now block members.size.now

-- the queue lists the row, and the moves into its first q states are counted
abbrev pub CountedIn : Moves → ℕ → Growth → List ℕ → Type 0
CountedIn moves q growth row = Counted moves.states moves.moves moves.from.now moves.to.now q growth.have.now row growth.queue.now growth.tail

-- the set has grown until nothing is added
abbrev pub GrownBy : Net → Growth → List ℕ → Type 0
GrownBy w growth row = Grown w growth.have.now growth.hit.now row growth.queue.now growth.tail

-- the set had grown before a block was split: J are the states outside whose block is ripe now
abbrev pub RegrowingBy : Net → Set → Growth → List ℕ → Type 0
RegrowingBy w J growth row = Regrowing w J growth.have.now growth.hit.now row growth.queue.now growth.tail

-- they are still the rows that were lent, and as long
abbrev pub SameGrowth : Growth → Growth → Type 0
SameGrowth old new = SameRow old.have new.have × SameRow old.hit new.hit × SameRow old.queue new.queue

-- there is a place for each state
abbrev pub Spacious : ℕ → Growth → Type 0
Spacious n growth = (n ≤ length growth.have.now) × (n ≤ length growth.hit.now) × (n ≤ length growth.queue.now)
