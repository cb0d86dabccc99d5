-- What the rows that travel together say of a round.
use Rattle.std.specs.Prelude.{ℕ, ◌≤◌, ◌<◌, ◌≡◌, List, length, get_or}
use Rattle.arena.specs.Sets.{least}
use Rattle.game.specs.Limits.{max_states}
use Rattle.game.specs.declared.Game.{Game}
use Rattle.chains.specs.declared.lent.Board.{Board}
use Rattle.chains.specs.declared.lent.Moves.{Moves}
use Rattle.chains.specs.declared.lent.Members.{Members}
use Rattle.chains.specs.declared.lent.MembersMut.{MembersMut}
use Rattle.chains.specs.Lent.{Holds, Names}
use Rattle.chains.specs.Grouped.{GatheredIn}
use Rattle.growth.specs.declared.Growth.{Growth}
use Rattle.growth.specs.Net.{hits_of}
use Rattle.rounds.specs.Renamed.{enough, row_apart}
use Rattle.rounds.specs.Search.{Search}

-- what is lent to the search for a border block
abbrev pub SearchOn : Game → Board → List ℕ → Members → List ℕ → List ℕ → Type 0
SearchOn g board block members hit lower =
    Search g board.side board.moves.states board.moves.moves board.turn.now board.first.now board.moves.to.now block members.last.now members.before.now lower hit

-- the same of rows that are written
abbrev pub SearchIn : Game → Board → List ℕ → MembersMut → Growth → List ℕ → Type 0
SearchIn g board block members growth lower =
    Search g board.side board.moves.states board.moves.moves board.turn.now board.first.now board.moves.to.now block members.last.now members.before.now lower growth.hit.now

-- the name of the part of block b that state b is not in: its lowest member
abbrev pub parted_off : Moves → ℕ → List ℕ → List ℕ → ℕ
parted_off moves b block have = least moves.states (row_apart block b (enough moves.need.now have))

-- block b is named by its lowest member, has members that have what they need and others, and the members and the hits of all blocks are known
abbrev pub Parting : Moves → ℕ → List ℕ → List ℕ → MembersMut → List ℕ → Type 0
Parting moves b have block members hit =
    (moves.states ≤ max_states)
    × (b < moves.states)
    × (moves.states ≤ length moves.need.now)
    × (moves.states ≤ length have)
    × (moves.states ≤ length block)
    × Names moves.states block
    × (get_or block b 0 ≡ b)
    × GatheredIn moves.states block members
    × Holds moves.states hit (hits_of moves.states block moves.need.now (λ s. get_or have s 0))
    × (parted_off moves b block have < moves.states)
