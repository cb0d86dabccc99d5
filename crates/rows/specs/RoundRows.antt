-- The rows of plain numbers that a run works on, and what they say of the game of the present round.
use Rattle.std.specs.Prelude.{ℕ, suc, ◌≤◌, ◌<◌, ◌≡◌, Bool, true, false, List, length, get_or, T}
use Rattle.arena.specs.Sets.{Set, bit}
use Rattle.game.specs.Game.{known_turn, turn_at, marks_at, block_at, from_at, to_at}
use Rattle.game.specs.Published.{side_of, arena_of}
use Rattle.game.specs.Accepted.{AcceptedGame}
use Rattle.game.specs.declared.Game.{Game}
use Rattle.blocks.specs.Blocks.{block_count}
use Rattle.blocks.specs.Round.{inside_step}
use Rattle.growth.specs.Stamp.{is_in, stamp}
use Rattle.chains.specs.Lent.{Holds, Linked, Gathered, need_of}
use Rattle.growth.specs.Net.{net}
use Rattle.growth.specs.Queue.{Grown}
use Rattle.rounds.specs.Search.{first_move}
use Rattle.runs.specs.Run.{lowest_first, run, round}
use Rattle.runs.specs.Hunting.{hunting_side, prey_states, lower_states, upper_states}
use Rattle.runs.specs.Log.{Log}
use Rattle.runs.specs.First.{UncaughtBefore, CatchableBefore, Bisecting}

-- the side that hunts; n states and m moves; whose turn it is, the marks, the moves and the chains of those into each state, the moves that
-- each state needs, where its moves begin, and the prey: these stay as they are in all rounds; and the present blocks
pub record Present (g : Game) (side n m objective : ℕ) (turn starts from to last before need first prey block : List ℕ) : Type 0 where
  pub accepted : AcceptedGame g
  pub known : T (known_turn side)
  pub hunts : side_of side ≡ hunting_side g
  pub states_is : g.states ≡ n
  pub moves_is : g.moves ≡ m
  pub objective_is : g.objective ≡ objective
  pub turn_is : Holds n turn (turn_at g)
  pub starts_is : Holds n starts (marks_at g)
  pub from_is : Holds m from (from_at g)
  pub to_is : Holds m to (to_at g)
  pub chains : Linked n m to last before
  pub need_is : Holds n need (need_of g side from)
  pub first_is : Holds (suc n) first (first_move (from_at g) m)
  pub prey_is : Holds n prey (λ s. bit (prey_states g s))
  pub block_is : Holds n block (block_at g)

-- the row says the set X
pub record Saying (n : ℕ) (row : List ℕ) (X : Set) : Type 0 where
  pub long : n ≤ length row
  pub in_row : (s : ℕ) → s < n → is_in row s ≡ X s

-- the members of the present blocks, and the set that the hunting side surely brings about, grown until nothing is added
pub record Lowered (g : Game) (n m : ℕ) (from to need block last before size have hit lower queue : List ℕ) (tail : ℕ) : Type 0 where
  pub gathered : Gathered n block last before size
  pub grown : Grown (net n m true from to need block size) have hit lower queue tail
  pub lower_in : Saying n lower (lower_states g)

-- a round that is under way: its game, and the rows that are not lent along
pub record Underway (n m : ℕ) (from to last before need block last' before' size have hit lower queue : List ℕ) (tail : ℕ) : Type 0 where
  pub game : Game
  pub side : ℕ
  pub objective : ℕ
  pub turn : List ℕ
  pub starts : List ℕ
  pub first : List ℕ
  pub prey : List ℕ
  pub present : Present game side n m objective turn starts from to last before need first prey block
  pub lowered : Lowered game n m from to need block last' before' size have hit lower queue tail

-- b is the border block of the game that is to be split
pub record Next (g : Game) (n : ℕ) (block : List ℕ) (b : ℕ) : Type 0 where
  pub state : b < n
  pub here : b ≡ lowest_first g
  pub name : get_or block b 0 ≡ b

-- a run whose round after `made` splits is lost for the hunting side, and none of the first `clear` rounds is: the game that it began with,
-- and the rows that are not lent along; the splits made, and the blocks of that round
pub record Retracing (n m objective clear made : ℕ) (starts from to last before need prey parents names block : List ℕ) : Type 0 where
  pub game : Game
  pub side : ℕ
  pub turn : List ℕ
  pub first : List ℕ
  pub base : List ℕ
  pub present : Present game side n m objective turn starts from to last before need first prey base
  pub log : Log game n made parents names
  pub bisecting : Bisecting game clear made
  pub blocks_are : Holds n block (block_at (round lowest_first made game))

-- a run begins: its first round is worked out
pub record Begun (side n m objective : ℕ) (turn starts from to last before need first prey block last' before' size have hit lower queue : List ℕ) (tail : ℕ) : Type 0 where
  pub game : Game
  pub present : Present game side n m objective turn starts from to last before need first prey block
  pub lowered : Lowered game n m from to need block last' before' size have hit lower queue tail

-- the round after `made` splits of a run of g is worked out, and not settled for the hunting side before; none of the first `clear` rounds is
-- lost for it
pub record Played (g : Game) (side n m objective : ℕ) (turn starts from to last before need first prey block last' before' size have hit lower queue parents names : List ℕ)
    (made clear tail : ℕ) : Type 0 where
  pub present : Present (round lowest_first made g) side n m objective turn starts from to last before need first prey block
  pub lowered : Lowered (round lowest_first made g) n m from to need block last' before' size have hit lower queue tail
  pub log : Log g n made parents names
  pub uncaught : UncaughtBefore g made
  pub hope : CatchableBefore g clear
  pub low : clear ≤ made
  pub fewer : made < block_count n (block_at (round lowest_first made g))

-- how a run ended: with the round at hand, or lost for the hunting side in it and perhaps before; `lower₀` was the lower row of its first round
pub record Stopped (g : Game) (allowance : ℕ) (lower₀ lower : List ℕ) (lost : Bool) (made clear : ℕ) : Type 0 where
  pub within : made ≤ allowance
  pub ended : lost ≡ false → run lowest_first allowance g ≡ record { splits = made; last = round lowest_first made g }
  pub settled : lost ≡ true → Bisecting g clear made
  pub kept : made ≡ 0 → lower ≡ lower₀

-- a run that has stopped: the game that it began with, and the rows that are not lent along; how it stopped, and the blocks of that round
pub record Ending (n m objective allowance clear made : ℕ) (lost : Bool) (starts from to last before need prey parents names block : List ℕ) : Type 0 where
  pub game : Game
  pub side : ℕ
  pub turn : List ℕ
  pub first : List ℕ
  pub base : List ℕ
  pub present : Present game side n m objective turn starts from to last before need first prey base
  pub log : Log game n made parents names
  pub within : made ≤ allowance
  pub ended : lost ≡ false → run lowest_first allowance game ≡ record { splits = made; last = round lowest_first made game }
  pub settled : lost ≡ true → Bisecting game clear made
  pub blocks_are : Holds n block (block_at (round lowest_first made game))

-- the pass in which each state entered what the hunting side surely brings about
abbrev pub lower_pass : Game → ℕ → ℕ
lower_pass g s = stamp (inside_step (arena_of g) (block_at g) (hunting_side g)) (prey_states g) g.states s

-- the row holds these passes
pub record Numbered (g : Game) (n : ℕ) (lower : List ℕ) : Type 0 where
  pub long : n ≤ length lower
  pub pass_is : (s : ℕ) → s < g.states → get_or lower s 0 ≡ lower_pass g s

-- the last game of a run, and the rows that are not lent along; where no split was made its lower row is there already
pub record Finishing (n m made tail : ℕ) (from to last before need prey block last' before' size have hit lower queue : List ℕ) : Type 0 where
  pub game : Game
  pub side : ℕ
  pub objective : ℕ
  pub turn : List ℕ
  pub starts : List ℕ
  pub first : List ℕ
  pub present : Present game side n m objective turn starts from to last before need first prey block
  pub kept : made ≡ 0 → Lowered game n m from to need block last' before' size have hit lower queue tail × Numbered game n lower

-- a run of g is played out: its splits, the blocks of its last game, and, where no split was made, the rows of its first round
pub record PlayedOut (g : Game) (n m allowance : ℕ) (from to need block last' before' size have hit lower₀ lower queue : List ℕ) (splits made tail : ℕ) : Type 0 where
  pub is_run : run lowest_first allowance g ≡ record { splits = splits; last = round lowest_first splits g }
  pub few : splits ≤ n
  pub blocks_are : Holds n block (block_at (round lowest_first splits g))
  pub none_made : made ≡ 0 → splits ≡ 0
  pub kept : made ≡ 0 → lower ≡ lower₀
  pub lowered : made ≡ 0 → Lowered (round lowest_first splits g) n m from to need block last' before' size have hit lower queue tail

-- how a run of g came out: the splits, the blocks of its last game, and the rows of what the hunting side surely brings about and may
pub record Final (g : Game) (side n m objective allowance : ℕ) (turn starts from to last before need first prey block : List ℕ) (splits : ℕ) (lower upper : List ℕ) : Type 0 where
  pub splits_is : splits ≡ (run lowest_first allowance g).splits
  pub present : Present (run lowest_first allowance g).last side n m objective turn starts from to last before need first prey block
  pub numbered : Numbered (run lowest_first allowance g).last n lower
  pub upper_in : Saying n upper (upper_states (run lowest_first allowance g).last)
