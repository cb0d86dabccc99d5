-- Blocks that join a set by counting the moves into it.
use Rattle.std.specs.Prelude.{ℕ, ◌≤◌, ◌<◌, Bool, ◌&&◌, cond, List, length, get_or, eqb, leb}
use Rattle.arena.specs.Sets.{Set, count}
use Rattle.game.specs.Limits.{max_states, max_moves}
use Rattle.chains.specs.Lent.{Keys}
use Rattle.growth.specs.Stamp.{stamp_from}

-- `from` and `to` by move, `need` and `block` by state, `size` by block; whether a whole block must be inside
pub record Net : Type 0 where
  pub states : ℕ
  pub moves : ℕ
  pub whole : Bool
  pub from : List ℕ
  pub to : List ℕ
  pub need : List ℕ
  pub block : List ℕ
  pub size : List ℕ

abbrev pub net : ℕ → ℕ → Bool → List ℕ → List ℕ → List ℕ → List ℕ → List ℕ → Net
net n m w f t r b z = record { states = n; moves = m; whole = w; from = f; to = t; need = r; block = b; size = z }

-- how many members of block b must be inside: all, or one
abbrev pub goal : Net → ℕ → ℕ
goal w b = cond w.whole (get_or w.size b 0) 1

-- the numbers are those of states and of blocks
pub record Sound (w : Net) : Type 0 where
  pub few-states : w.states ≤ max_states
  pub few-moves : w.moves ≤ max_moves
  pub froms : Keys w.states w.moves w.from
  pub tos : Keys w.states w.moves w.to
  pub blocks : Keys w.states w.states w.block
  pub need-long : w.states ≤ length w.need
  pub size-long : w.states ≤ length w.size
  pub goal-some : (s : ℕ) → s < w.states → 1 ≤ goal w (get_or w.block s 0)

-- how many of the first m moves are in M and leave s
unfoldable pub tally : ℕ → List ℕ → Set → ℕ → ℕ
tally m from M s = count m (λ k. eqb (get_or from k 0) s && M k)

-- how many members of block b have as many moves as they need, where t says how many each has
unfoldable pub hits_of : ℕ → List ℕ → List ℕ → (ℕ → ℕ) → ℕ → ℕ
hits_of n block need t b = count n (λ s. eqb (get_or block s 0) b && leb (get_or need s 0) (t s))

abbrev pub hits : Net → (ℕ → ℕ) → ℕ → ℕ
hits w t b = hits_of w.states w.block w.need t b

-- enough members of block b do
unfoldable pub ripe : Net → (ℕ → ℕ) → Set
ripe w t b = leb 1 (hits w t b) && leb (goal w b) (hits w t b)

-- the same by the rows of sizes and of hits
abbrev pub ripe_by : Bool → List ℕ → List ℕ → Set
ripe_by whole size hit b = leb 1 (get_or hit b 0) && leb (cond whole (get_or size b 0) 1) (get_or hit b 0)

-- the states whose block joins the set X
unfoldable pub joined : Net → Set → Set
joined w X s = ripe w (tally w.moves w.from (λ k. X (get_or w.to k 0))) (get_or w.block s 0)

-- the pass of each state, k passes after those of f
abbrev pub pass_of : Net → (ℕ → ℕ) → ℕ → ℕ → ℕ
pass_of w f k s = stamp_from (joined w) f k s
