-- A growth begins: what the calls before the passes made is the start of the first pass.
use mathlib.Core.Path.{◌≡◌}
use mathlib.Core.List.{List}
use Prim.Native.Nat.{ℕ}
use lib.ListN.{get_or}
use Rattle.chains.specs.Lent.{Holds}
use Rattle.growth.specs.Stamp.{pass_at}
use Rattle.growth.specs.Net.{Net, Sound, hits_of, ripe_by}
use Rattle.growth.specs.Queue.{Counted, Joined, Passing}
use Rattle.growth.proofs.Passing.{grow_first}

-- the hits were counted, and the ripe blocks joined
pub starts : {w : Net} → Sound w → {q : ℕ} {have₀ row₀ queue₀ : List ℕ} {tail₀ : ℕ} → Counted w.states w.moves w.from w.to q have₀ row₀ queue₀ tail₀
    → {hit₁ : List ℕ} → Holds w.states hit₁ (hits_of w.states w.block w.need (λ s. get_or have₀ s 0))
    → {have hit row queue : List ℕ} {tail : ℕ} → Joined w.states (λ s. ripe_by w.whole w.size hit₁ (get_or w.block s 0)) 2 row₀ queue₀ tail₀ row queue tail × (have ≡ have₀) × (hit ≡ hit₁)
    → Passing w (pass_at row₀) 0 tail₀ q have hit row queue tail
starts {w} sound counted hits joined = rw (joined.1, joined.2) (grow_first w sound counted hits joined.0)
