-- The log of a run's splits, for the contracts of internal functions: by it the blocks of an earlier round are had again.
use Rattle.std.specs.Prelude.{ℕ, suc, ◌≤◌, ◌<◌, ◌≡◌, cond, List, length, get_or, eqb}
use Rattle.game.specs.Game.{block_at}
use Rattle.game.specs.declared.Game.{Game}
use Rattle.runs.specs.Run.{lowest_first, round}

-- the splits made: split i was of block parents[i], and the part without that state got the name names[i]
pub record Log (g : Game) (n made : ℕ) (parents names : List ℕ) : Type 0 where
  pub parents_long : made ≤ length parents
  pub names_long : made ≤ length names
  -- the name read as its parent gives the blocks before the split
  pub undo : (i : ℕ) → i < made → (s : ℕ) → s < n
      → block_at (round lowest_first i g) s ≡ cond (eqb (block_at (round lowest_first (suc i) g) s) (get_or names i 0)) (get_or parents i 0) (block_at (round lowest_first (suc i) g) s)
