-- Laws of a run: all but the blocks stays what it was, each split is one of an open round, and the splits are counted.
use Prim.Native.Nat.{ℕ, zero, suc, ◌+◌, ◌≤◌}
use mathlib.Core.Path.{◌≡◌, refl, sym, ap, ◌∙◌}
use native.Mathlib.Omega.{arith}
use Rattle.game.specs.Game.{block_at, initials, reblocked}
use Rattle.game.specs.Accepted.{AcceptedGame}
use Rattle.game.specs.declared.Game.{Game}
use Rattle.blocks.specs.Blocks.{block_count}
use Rattle.blocks.proofs.Split.{block_count-le}
use Rattle.runs.specs.Run.{Choice, Word, YES, NO, OPEN, word, Borders, split_game, Run, one_more_split, ended, if_open, run, round}
use Rattle.runs.proofs.Rounds.{split-accepted, split-one-more}

-- YES is not OPEN
pub yes_open : {A : Type 0} → YES ≡ OPEN → A
yes_open e = let z : ◌≡◌ {A = ℕ} 0 1 = cc in absurd (omega arith)

-- NO is not OPEN
pub no_open : {A : Type 0} → NO ≡ OPEN → A
no_open e = let z : ◌≡◌ {A = ℕ} 0 1 = cc in absurd (omega arith)

-- what holds where a run ends, and of one split more in an open round, holds of every run
run_ind : (choose : Choice) (P : ℕ → Game → Run → Type 0)
    → ((a : ℕ) (g : Game) → (word g ≡ OPEN → 0 ≡ a) → P a g (ended g))
    → ((a : ℕ) (g : Game) (r : Run) → word g ≡ OPEN → P a (split_game choose g) r → P (suc a) g (one_more_split r))
    → (a : ℕ) (g : Game) → P a g (run choose a g)
unfolding run
run_ind choose P end more zero g = end 0 g (λ e. refl)
run_ind choose P end more (suc a) g = go (word g) refl (run_ind choose P end more a (split_game choose g))
  where
    go : (w : Word) → word g ≡ w → P a (split_game choose g) (run choose a (split_game choose g))
        → P (suc a) g (if_open w (one_more_split (run choose a (split_game choose g))) (ended g))
    go YES e ih = end (suc a) g (λ q. yes_open (sym e ∙ q))
    go NO e ih = end (suc a) g (λ q. no_open (sym e ∙ q))
    go OPEN e ih = more a g _ e ih

-- ## What a run keeps

-- the last game of a run is the first but for the row of blocks
pub run-kept : (choose : Choice) (a : ℕ) (g : Game) → (run choose a g).last ≡ reblocked g (run choose a g).last.block
unfolding split_game
run-kept choose = run_ind choose (λ a g r. r.last ≡ reblocked g r.last.block) (λ a g o. refl) (λ a g r o ih. ih)

module _ (choose : Choice) (a : ℕ) (g : Game) where
  -- the states are as many
  pub run-states : (run choose a g).last.states ≡ g.states
  run-states = ap (λ h. h.states) (run-kept choose a g)

  -- the initial states are the same
  pub run-initials : initials (run choose a g).last ≡ initials g
  run-initials = ap initials (run-kept choose a g)

-- ## The rounds

-- each round's game is accepted where the first is
pub round-accepted : (choose : Choice) (k : ℕ) (g : Game) → AcceptedGame g → AcceptedGame (round choose k g)
unfolding round
round-accepted choose zero g ok = ok
round-accepted choose (suc k) g ok = round-accepted choose k (split_game choose g) (split-accepted choose g ok)

-- the last round is the one after as many splits as were made
pub run-round : (choose : Choice) (a : ℕ) (g : Game) → (run choose a g).last ≡ round choose (run choose a g).splits g
unfolding round
run-round choose = run_ind choose (λ a g r. r.last ≡ round choose r.splits g) (λ a g o. refl) (λ a g r o ih. ih)

-- ## The splits

-- a run of g with a allowed splits has come to an end
pub record Ended (a : ℕ) (g : Game) (r : Run) : Type 0 where
  -- its last game is accepted
  pub accepted : AcceptedGame r.last
  -- the splits are the blocks at the end minus the blocks at the start
  pub counted : block_count r.last.states (block_at r.last) ≡ block_count g.states (block_at g) + r.splits
  -- no more are made than allowed, and an open end has used them up
  pub allowed : r.splits ≤ a
  pub used : word r.last ≡ OPEN → r.splits ≡ a

-- every run of an accepted game comes to such an end
pub run-ended : (choose : Choice) → Borders choose → (a : ℕ) (g : Game) → AcceptedGame g → Ended a g (run choose a g)
run-ended choose borders =
    run_ind choose (λ a g r. AcceptedGame g → Ended a g r)
    (λ a g over ok. record { accepted = ok; counted = omega arith; allowed = omega arith; used = over })
    (λ a g r e rest ok.
    let ih = rest (split-accepted choose g ok) in
    record {
      accepted = ih.accepted;
      counted = omega (arith, ih.counted, split-one-more choose g ok (borders g ok e));
      allowed = omega (arith, ih.allowed);
      used = λ q. ap suc (ih.used q);
    })

module _ (choose : Choice) (borders : Borders choose) (a : ℕ) (g : Game) (ok : AcceptedGame g) where
  -- the splits are at most the states minus the starting blocks
  pub splits_bound : block_count g.states (block_at g) + (run choose a g).splits ≤ g.states
  splits_bound =
      omega (arith, (run-ended choose borders a g ok).counted, block_count-le (run choose a g).last.states (block_at (run choose a g).last), run-states choose a g)

  -- with at least the states minus the starting blocks allowed, the end is not open
  pub never_open : g.states ≤ block_count g.states (block_at g) + a → word (run choose a g).last ≡ OPEN → ⊥
  unfolding split_game
  never_open enough e =
      let r = run-ended choose borders a g ok in
      let h = (run choose a g).last in
      omega (
        arith,
        r.counted,
        r.used e,
        split-one-more choose h r.accepted (borders h r.accepted e),
        block_count-le (split_game choose h).states (block_at (split_game choose h)),
        run-states choose a g,
      )
