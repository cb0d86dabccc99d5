-- What one round's sets mean, whatever the blocks: side 1 wins from sure states, and its opponent spoils from never states.
use Prim.Native.Nat.{ℕ, ◌<◌}
use lib.Dec.{T}
use Rattle.arena.specs.Sets.{Set, compl}
use Rattle.arena.specs.Arena.{one, two, Arena, Live}
use Rattle.arena.specs.Win.{Goal, to_reach, to_stay, objective, Winning, Spoils}
use Rattle.arena.proofs.Tests.{contra}
use Rattle.arena.proofs.Sets.{Sub}
use Rattle.arena.proofs.Win.{reach, hold, region, region-wins, outside_spoils, winning_region}
use Rattle.blocks.specs.Round.{sure, possible}
use Rattle.blocks.specs.Hunt.{lower, upper}
use Rattle.blocks.proofs.Hunt.{lower-reach, reach-upper, sure-reach, possible-reach, sure_stay, possible_stay}

module _ (g : Arena) (block : ℕ → ℕ) (A : Set) where
  -- 000, section 4: sure states, under-approximated, lie in the winning region
  pub sure-region : (o : Goal) → Sub g.size (sure g block o A) (region g one o A)
  unfolding hold
  sure-region to_reach s l h = lower-reach g block one A s l (rw (sure-reach g block A) at h)
  sure-region to_stay s l h =
      contra (reach g two (compl A) s) (upper g block two (compl A) s) (reach-upper g block two (compl A) s l) (rw (sure_stay g block A) at h)

  -- 000, section 4: the winning region lies in the possible states, over-approximated
  pub region-possible : (o : Goal) → Sub g.size (region g one o A) (possible g block o A)
  unfolding hold
  region-possible to_reach s l h = rw (possible-reach g block A) (reach-upper g block one A s l h)
  region-possible to_stay s l h =
      rw (possible_stay g block A) (contra (lower g block two (compl A) s) (reach g two (compl A) s) (lower-reach g block two (compl A) s l) h)

  -- a sure state is possible
  pub sure-possible : (o : Goal) → Sub g.size (sure g block o A) (possible g block o A)
  sure-possible o s l h = region-possible o s l (sure-region o s l h)

  -- side 1 wins from a sure state
  pub sure-wins : Live g → (o : Goal) (s : ℕ) → s < g.size → T (sure g block o A s) → Winning g one (objective o A) s
  sure-wins live o s l h = region-wins g live one o A s l (sure-region o s l h)

  -- side 1 wins from possible states only
  pub wins-possible : Live g → (o : Goal) (s : ℕ) → s < g.size → Winning g one (objective o A) s → T (possible g block o A s)
  wins-possible live o s l w = region-possible o s l ((winning_region g live one o A s l).0 w)

  -- side 2 spoils from a never state
  pub never_spoils : Live g → (o : Goal) (s : ℕ) → s < g.size → (T (possible g block o A s) → ⊥) → Spoils g one (objective o A) s
  never_spoils live o s l n = outside_spoils g live one o A s l (λ h. n (region-possible o s l h))
