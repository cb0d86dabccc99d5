-- What the rows that travel together say.
use Rattle.std.specs.Prelude.{ℕ, ◌≤◌, ◌≡◌, List, length}
use Rattle.std.specs.Borrow.{MutBor}
use Rattle.game.specs.declared.Game.{Game}
use Rattle.chains.specs.Lent.{Linked, Gathered, Lent}
use Rattle.chains.specs.declared.lent.Moves.{Moves}
use Rattle.chains.specs.declared.lent.Members.{Members}
use Rattle.chains.specs.declared.lent.MembersMut.{MembersMut}

-- the moves of a game with these blocks, seen by the side
abbrev pub MovesOf : Game → ℕ → Moves → List ℕ → Type 0
MovesOf g side moves block = Lent g side moves.states moves.moves moves.from.now moves.to.now moves.need.now block

-- the moves into each state are chained
abbrev pub Chained : Moves → Type 0
Chained moves = Linked moves.states moves.moves moves.to.now moves.last.now moves.before.now

-- there is a place for each state
abbrev pub Roomy : ℕ → MembersMut → Type 0
Roomy n members = (n ≤ length members.last.now) × (n ≤ length members.before.now) × (n ≤ length members.size.now)

-- the members of each block are chained and counted
abbrev pub MembersOf : ℕ → List ℕ → Members → Type 0
MembersOf n block members = Gathered n block members.last.now members.before.now members.size.now

-- the same of rows that are written
abbrev pub GatheredIn : ℕ → List ℕ → MembersMut → Type 0
GatheredIn n block members = Gathered n block members.last.now members.before.now members.size.now

-- they are still the rows that were lent, and as long
pub record SameRow (old new : MutBor (List ℕ)) : Type 0 where
  pub name : new.ghost_name ≡ old.ghost_name
  pub long : length new.now ≡ length old.now

abbrev pub SameMembers : MembersMut → MembersMut → Type 0
SameMembers old new = SameRow old.last new.last × SameRow old.before new.before × SameRow old.size new.size
