-- The three ends of a run: the hunting side surely has its way, or can no longer have it, or the allowance is used up.
use Prim.Native.Nat.{ℕ, ◌+◌, ◌-◌, ◌≤◌, ◌<◌}
use mathlib.Core.Path.{◌≡◌, sym, ◌∙◌}
use mathlib.Core.Bool.{true, false, true≢false}
use mathlib.Core.Logic.{inl, inr}
use native.Mathlib.Nat.{not-suc-le-zero}
use native.Mathlib.Omega.{arith}
use Rattle.arena.proofs.Tests.{is_true, is_false}
use Rattle.game.specs.Accepted.{AcceptedGame}
use Rattle.game.specs.declared.Game.{Game}
use Rattle.runs.specs.Run.{lowest_first, run, round}
use Rattle.runs.specs.Hunting.{caught, catchable}
use Rattle.runs.specs.First.{UncaughtBefore, CatchableBefore, Bisecting}
use Rattle.runs.proofs.Settled.{caught-catchable, word_open, open_unsettled, run_is, catchable-earlier, uncaught-earlier, open_earlier}

-- ## Which rounds are known not to be settled

-- before the first round there is none
pub uncaught-none : (g : Game) → UncaughtBefore g 0
uncaught-none g j e = absurd (omega arith)

-- before the next round there is this one
pub uncaught-more : (g : Game) (k : ℕ) → caught (round lowest_first k g) ≡ false → UncaughtBefore g (k + 1)
uncaught-more g k h j e = let q : j ≡ k = omega arith in rw q h

-- before the first round there is none
pub catchable-none : (g : Game) → CatchableBefore g 0
catchable-none g i l = absurd (not-suc-le-zero l)

-- if the hunting side may have its way in this round, it may in all before the next
pub catchable-more : (g : Game) (ok : AcceptedGame g) (k : ℕ) → catchable (round lowest_first k g) ≡ true → CatchableBefore g (k + 1)
catchable-more g ok k h i l = catchable-earlier lowest_first g ok i k (omega arith) h

-- a round in which the hunting side cannot have its way is not one in which it surely does
pub lost-uncaught : (g : Game) → catchable g ≡ false → caught g ≡ false
lost-uncaught g h = is_false (caught g) (λ x. true≢false (sym (caught-catchable g (is_true (caught g) x)) ∙ h))

-- ## The first lost round is narrowed down

-- a lost round in the middle: the first is that one or one before it
pub bisect_left : {g : Game} {lo hi : ℕ} → Bisecting g lo hi → (mid : ℕ) → lo ≤ mid → catchable (round lowest_first mid g) ≡ false → Bisecting g lo mid
bisect_left b mid l h = record { low = l; hope = b.hope; lost = h }

-- a round in the middle that is not lost: the first is one after it
pub bisect_right : {g : Game} → AcceptedGame g → {lo hi : ℕ} → Bisecting g lo hi → (mid : ℕ) → mid < hi → catchable (round lowest_first mid g) ≡ true
    → Bisecting g (mid + 1) hi
bisect_right {g} ok b mid l h = record { low = omega arith; hope = catchable-more g ok mid h; lost = b.lost }

-- ## The ends of a run

module _ (g : Game) (ok : AcceptedGame g) (a : ℕ) where
  -- the first lost round has been found: the run ends there
  pub settled-run : {lo hi : ℕ} → Bisecting g lo hi → hi ≤ lo → hi ≤ a → run lowest_first a g ≡ record { splits = hi; last = round lowest_first hi g }
  settled-run {lo} {hi} b l m =
      run_is lowest_first a hi g m
      (λ i k. word_open (round lowest_first i g) (uncaught-earlier lowest_first g ok i hi (omega arith) (lost-uncaught (round lowest_first hi g) b.lost)) (b.hope i (omega arith)))
      (inl (λ e. true≢false (sym (open_unsettled (round lowest_first hi g) e).1 ∙ b.lost)))

  -- the first round in which the hunting side surely has its way: the run ends there
  pub caught-run : (k : ℕ) → k ≤ a → UncaughtBefore g k → caught (round lowest_first k g) ≡ true → run lowest_first a g ≡ record { splits = k; last = round lowest_first k g }
  caught-run k m before h =
      run_is lowest_first a k g m
      (λ i l. word_open (round lowest_first i g) (uncaught-earlier lowest_first g ok i (k - 1) (omega arith) (before (k - 1) (omega arith)))
      (catchable-earlier lowest_first g ok i k (omega arith) (caught-catchable (round lowest_first k g) h)))
      (inl (λ e. true≢false (sym h ∙ (open_unsettled (round lowest_first k g) e).0)))

  -- a round that is not settled, with all allowed splits made: the run ends there
  pub open_run : (k : ℕ) → k ≡ a → caught (round lowest_first k g) ≡ false → catchable (round lowest_first k g) ≡ true → run lowest_first a g ≡ record { splits = k; last = round lowest_first k g }
  open_run k e lo up = run_is lowest_first a k g (omega arith) (λ i l. open_earlier lowest_first g ok i k (omega arith) lo up) (inr e)
