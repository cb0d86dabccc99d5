-- Which rounds are known to be settled or not, for the contracts of internal functions: the first settled round is narrowed down.
use Rattle.std.specs.Prelude.{ℕ, ◌+◌, ◌≤◌, ◌<◌, ◌≡◌, true, false}
use Rattle.game.specs.declared.Game.{Game}
use Rattle.runs.specs.Run.{lowest_first, round}
use Rattle.runs.specs.Hunting.{caught, catchable}

-- in the round before round k, if there is one, the hunting side does not surely have its way
abbrev pub UncaughtBefore : Game → ℕ → Type 0
UncaughtBefore g k = (j : ℕ) → j + 1 ≡ k → caught (round lowest_first j g) ≡ false

-- in every round before round k the hunting side may have its way
abbrev pub CatchableBefore : Game → ℕ → Type 0
CatchableBefore g k = (i : ℕ) → i < k → catchable (round lowest_first i g) ≡ true

-- the first round in which the hunting side can no longer have its way is round lo, round hi, or one between them
pub record Bisecting (g : Game) (lo hi : ℕ) : Type 0 where
  pub low : lo ≤ hi
  -- no round before lo is lost to it, and round hi is
  pub hope : CatchableBefore g lo
  pub lost : catchable (round lowest_first hi g) ≡ false
