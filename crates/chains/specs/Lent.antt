-- The rows of plain numbers that are lent for the loops of a run, and what they say of a game.
use Rattle.std.specs.Prelude.{ℕ, zero, suc, ◌≤◌, ◌<◌, ◌≡◌, ◌&&◌, cond, List, length, get_or, T, eqb, ltb}
use Rattle.arena.specs.Sets.{count}
use Rattle.game.specs.Game.{known_turn, turn_at, block_at, from_at, to_at}
use Rattle.game.specs.Ranged.{Ranged}
use Rattle.game.specs.declared.Game.{Game}

-- the first n places of the row hold f's values
pub record Holds (n : ℕ) (row : List ℕ) (f : ℕ → ℕ) : Type 0 where
  pub long : n ≤ length row
  pub cell : (s : ℕ) → s < n → get_or row s 0 ≡ f s

-- the first m keys are below n
pub record Keys (n m : ℕ) (key : List ℕ) : Type 0 where
  pub long : m ≤ length key
  pub below : (k : ℕ) → k < m → get_or key k 0 < n

-- each block is named by its lowest member
pub record Names (n : ℕ) (block : List ℕ) : Type 0 where
  pub below : (s : ℕ) → s < n → get_or block s 0 ≤ s
  pub own : (s : ℕ) → s < n → get_or block (get_or block s 0) 0 ≡ get_or block s 0

-- how many of the first m keys are c
unfoldable pub many_of : ℕ → List ℕ → ℕ → ℕ
many_of m key c = count m (λ k. eqb (get_or key k 0) c)

-- what stands at each place of a row
abbrev pub cell_at : List ℕ → ℕ → ℕ
cell_at row k = get_or row k 0

-- the last of the first m keys that is c, counted from 1; 0 for none
unfoldable pub last_of : (ℕ → ℕ) → ℕ → ℕ → ℕ
last_of key zero c = 0
last_of key (suc k) c = cond (eqb (key k) c) (suc k) (last_of key k c)

-- the same of a row of keys
abbrev pub last_below : List ℕ → ℕ → ℕ → ℕ
last_below key = last_of (cell_at key)

-- chains of the places with equal keys: the last place of each key, and the one before each place, counted from 1; 0 for none
pub record Linked (n m : ℕ) (key last before : List ℕ) : Type 0 where
  pub lasts : Holds n last (last_below key m)
  pub befores : Holds m before (λ k. last_below key k (get_or key k 0))

-- the place before each, where those of the first j places that have key c were linked anew
unfoldable pub rechained : List ℕ → ℕ → List ℕ → ℕ → ℕ → ℕ
rechained key c before j k = cond (eqb (get_or key k 0) c && ltb k j) (last_below key k c) (get_or before k 0)

-- the members of each block as chains, and how many there are
pub record Gathered (n : ℕ) (block last before size : List ℕ) : Type 0 where
  pub chains : Linked n n block last before
  pub sizes : Holds n size (many_of n block)

-- how many of its moves a state needs into a set to be in the side's forced-step set of it
unfoldable pub need_of : Game → ℕ → List ℕ → ℕ → ℕ
need_of g side from s = cond (eqb (turn_at g s) side) 1 (many_of g.moves from s)

-- n states and m moves; the states that moves leave and go to, the moves that each state needs, the blocks
pub record Lent (g : Game) (side n m : ℕ) (from to need block : List ℕ) : Type 0 where
  pub ranged : Ranged g
  pub known : T (known_turn side)
  pub states_is : g.states ≡ n
  pub moves_is : g.moves ≡ m
  pub from_is : Holds m from (from_at g)
  pub to_is : Holds m to (to_at g)
  pub need_is : Holds n need (need_of g side from)
  pub block_is : Holds n block (block_at g)
