-- The exchanged game beside the game, over a whole run: who wins, the rounds, and with a single start the same run.
use Prim.Native.Nat.{ℕ, zero, suc, ◌<◌}
use mathlib.Core.Path.{◌≡◌, refl, sym, ap, ap₂, ◌∙◌, subst}
use mathlib.Core.Bool.{Bool, true, false, not, ◌&&◌, cond}
use mathlib.Core.Logic.{◌↔◌}
use lib.Dec.{T, T_not, not_T}
use Rattle.arena.specs.Sets.{Set, some}
use Rattle.arena.specs.Arena.{one}
use Rattle.arena.specs.Win.{Goal}
use Rattle.arena.proofs.Tests.{T_ext}
use Rattle.arena.proofs.Sets.{meets_in, meets-out}
use Rattle.arena.proofs.Win.{region, winning_region}
use Rattle.game.specs.Game.{block_at, initials, targets, has_move}
use Rattle.game.specs.Published.{goal_of, arena_of}
use Rattle.game.specs.Accepted.{AcceptedGame}
use Rattle.game.specs.declared.Game.{Game}
use Rattle.exchange.specs.Exchange.{exchanged_game}
use Rattle.exchange.proofs.Games.{exchanged-initials, exchanged-targets}
use Rattle.blocks.proofs.Sound.{sure-possible}
use Rattle.runs.specs.Run.{Choice, round, sure_states, possible_states, Word, YES, NO, OPEN, word, split_game, Run, one_more_split, ended, if_open, run}
use Rattle.demands.specs.Winners.{Wins}
use Rattle.demands.specs.Trades.{SingleStart, trade_run}
use Rattle.runs.proofs.Rounds.{accepted_live, split-accepted}
use Rattle.demands.proofs.Traded.{region_traded}
use Rattle.demands.proofs.Exchanged.{trade_word, turns_of, turns_flipped, goal_opposite, sure-exchanged, possible-exchanged, split-exchanged}

-- ## Who wins

module _ (g : Game) (ok : AcceptedGame g) (s : ℕ) (l : s < g.states) where
  -- the exchanged game's region is what lies outside the game's
  region-exchanged : region (arena_of (exchanged_game g)) one (goal_of (exchanged_game g).objective) (targets (exchanged_game g)) s
      ≡ not (region (arena_of g) one (goal_of g.objective) (targets g) s)
  unfolding arena_of has_move exchanged_game
  region-exchanged =
      ap (λ (o : Goal). region (arena_of (exchanged_game g)) one o (targets (exchanged_game g)) s) (goal_opposite g)
      ∙ region_traded (arena_of g) (turns_of g) (turns_flipped g) (goal_of g.objective) (targets g) (targets (exchanged_game g)) (exchanged-targets g ok) s l

  -- side 1 wins from just those states from which it did not win before
  pub wins-exchanged : Wins (exchanged_game g) s ↔ (Wins g s → ⊥)
  unfolding arena_of has_move exchanged_game
  wins-exchanged =
      let before = winning_region (arena_of g) (accepted_live g ok) one (goal_of g.objective) (targets g) s l in
      let after = winning_region (arena_of (exchanged_game g)) (accepted_live g ok) one (goal_of (exchanged_game g).objective) (targets (exchanged_game g)) s l in
      let R = region (arena_of g) one (goal_of g.objective) (targets g) s in (
        (λ w b. T_not R (subst T region-exchanged (after.0 w)) (before.0 b)),
        λ n. after.1 (subst T (sym region-exchanged) (not_T R (λ h. n (before.1 h)))),
      )

-- ## The rounds

-- the choice of a border block does not look at the sides
abbrev pub SideBlind : Choice → Type 0
SideBlind choose = (g : Game) → AcceptedGame g → choose (exchanged_game g) ≡ choose g

-- each round of the exchanged game is the exchange of the game's round
pub round-exchanged : (choose : Choice) → SideBlind choose → (k : ℕ) (g : Game) → AcceptedGame g → round choose k (exchanged_game g) ≡ exchanged_game (round choose k g)
unfolding round
round-exchanged choose blind zero g ok = refl
round-exchanged choose blind (suc k) g ok =
    ap (round choose k) (split-exchanged g ok choose (blind g ok)) ∙ round-exchanged choose blind k (split_game choose g) (split-accepted choose g ok)

-- ## With a single start

module _ (g : Game) (start : ℕ) (single : SingleStart g start) where
  -- some start lies in X exactly where the single one does
  start_in : (X : Set) → some g.states (λ s. initials g s && X s) ≡ X start
  start_in X = T_ext (some g.states (λ s. initials g s && X s)) (X start)
      (λ h. let w = meets-out g.states (initials g) X h in subst (λ s. T (X s)) (single.only w.0 w.1 w.2) w.3)
      (meets_in g.states (initials g) X start single.state single.chosen)

  -- the word is the single start's
  word_single : word g ≡ cond (not (possible_states g start)) NO (cond (sure_states g start) YES OPEN)
  unfolding word
  word_single = ap₂ (λ x y. cond (not x) NO (cond y YES OPEN)) (start_in (possible_states g)) (start_in (sure_states g))

  -- a split keeps it
  split_single : (choose : Choice) → SingleStart (split_game choose g) start
  unfolding split_game
  split_single choose = record { state = single.state; chosen = single.chosen; only = single.only }

module _ (g : Game) (ok : AcceptedGame g) (start : ℕ) (single : SingleStart g start) where
  -- the exchange keeps it
  pub exchanged_single : SingleStart (exchanged_game g) start
  unfolding exchanged_game
  exchanged_single = record {
    state = single.state;
    chosen = subst T (sym (exchanged-initials g ok start single.state)) single.chosen;
    only = λ s l i. single.only s l (subst T (exchanged-initials g ok s l) i);
  }

  -- YES and NO trade places, and OPEN stays
  pub word-exchanged : word (exchanged_game g) ≡ trade_word (word g)
  unfolding arena_of
  word-exchanged =
      word_single (exchanged_game g) start exchanged_single
      ∙ ap₂ (λ x y. cond (not x) NO (cond y YES OPEN)) (possible-exchanged g ok start single.state) (sure-exchanged g ok start single.state)
      ∙ go (sure_states g start) (possible_states g start) (sure-possible (arena_of g) (block_at g) (targets g) (goal_of g.objective) start single.state)
      ∙ ap trade_word (sym (word_single g start single))
    where
      go : (x y : Bool) → (T x → T y) → cond (not (not x)) NO (cond (not y) YES OPEN) ≡ trade_word (cond (not y) NO (cond x YES OPEN))
      go true true h = refl
      go true false h = absurd (h tt)
      go false true h = refl
      go false false h = refl

-- the exchanged run makes the same splits in the same order, and ends with the exchange of the last game
pub run-exchanged : (choose : Choice) → SideBlind choose → (a : ℕ) (g : Game) → AcceptedGame g → (start : ℕ) → SingleStart g start
    → run choose a (exchanged_game g) ≡ trade_run (run choose a g)
unfolding run
run-exchanged choose blind zero g ok start single = refl
run-exchanged choose blind (suc a) g ok start single =
    rw (word-exchanged g ok start single, split-exchanged g ok choose (blind g ok))
    (go (word g) (run-exchanged choose blind a (split_game choose g) (split-accepted choose g ok) start (split_single g start single choose)))
  where
    more : Run
    more = run choose a (split_game choose g)

    go : (w : Word) → run choose a (exchanged_game (split_game choose g)) ≡ trade_run more
        → if_open (trade_word w) (one_more_split (run choose a (exchanged_game (split_game choose g)))) (ended (exchanged_game g)) ≡ trade_run (if_open w (one_more_split more) (ended g))
    go YES ih = refl
    go NO ih = refl
    go OPEN ih = ap one_more_split ih
