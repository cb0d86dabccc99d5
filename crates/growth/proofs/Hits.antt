-- Members counted that have as many moves as they need.
use Prim.Native.Nat.{ℕ, ◌+◌, ◌≤◌, ◌<◌}
use mathlib.Core.Path.{◌≡◌}
use mathlib.Core.List.{List}
use lib.ListN.{get_or, set}
use lib.Dec.{leb}
use borrow.Author.Tests.{le-leb, lt-leb}
use Rattle.arena.specs.Sets.{Set}
use Rattle.chains.specs.Lent.{Holds}
use Rattle.growth.specs.Net.{hits_of}
use Rattle.chains.proofs.Counts.{holds_cong}
use Rattle.chains.proofs.Filling.{among_none, among-more, among_same, among-le}

module _ (block need : List ℕ) (t : ℕ → ℕ) where
  enough : Set
  enough s = leb (get_or need s 0) (t s)

  pub hits-none : {n : ℕ} {hit : List ℕ} → Holds n hit (λ _. 0) → Holds n hit (hits_of 0 block need t)
  unfolding hits_of enough
  hits-none h = holds_cong h (λ b _. among_none block enough b)

  -- one state more, which has them or not
  pub hits_more : (s : ℕ) {n : ℕ} {hit after : List ℕ} → Holds n hit (hits_of s block need t) → get_or block s 0 < n → get_or need s 0 ≤ t s
      → after ≡ set hit (get_or block s 0) (get_or hit (get_or block s 0) 0 + 1) → Holds n after (hits_of (s + 1) block need t)
  unfolding hits_of enough
  hits_more s h l e q = among-more block enough s h l (le-leb (get_or need s 0) (t s) e) q

  pub hits-same : (s : ℕ) {n : ℕ} {hit after : List ℕ} → Holds n hit (hits_of s block need t) → t s < get_or need s 0 → after ≡ hit → Holds n after (hits_of (s + 1) block need t)
  unfolding hits_of enough
  hits-same s h e q = among_same block enough s h (lt-leb (get_or need s 0) (t s) e) q

  pub hits-le : (s b : ℕ) → hits_of s block need t b ≤ s
  unfolding hits_of enough
  hits-le s b = among-le block enough s b
